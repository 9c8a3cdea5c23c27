use Rattle.std.proofs.Common.{◌≡◌, true, false, sym, subst}
use Rattle.aa_model.specs.declared.label.Label.{Label}
use Rattle.aa_reachability.specs.Moves.{complains_by}
use Rattle.aa_reachability.proofs.Enforcing.{freely}
use Rattle.aa_reachability.proofs.going.is_enforced.Goals as goal

pub returns-in-Unconfined : goal.returns-in-Unconfined
returns-in-Unconfined c = λ yes r.
    subst (λ (l : Label). complains_by c.args.policies.now l r ≡ false) (sym c.in-Unconfined.is) (freely c.args.policies.now c.in-Unconfined.field-0 r)
