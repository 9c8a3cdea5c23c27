use Rattle.std.proofs.Common.{◌≡◌, Bool, Some, None, true, false, sym, ◌∙◌, ap}
use Rattle.std.specs.Prelude.{not}
use Rattle.std.proofs.lemmas.Bool.{not-true}
use Rattle.std.proofs.lemmas.Option.{same_Some}
use Rattle.aa_model.specs.declared.policy.Profile.{Profile}
use Rattle.aa_reachability.proofs.Enforcing.{plainly}
use Rattle.aa_reachability.proofs.going.is_enforced_in.Goals as goal

pub returns-in-Some : goal.returns-in-Some
returns-in-Some c = λ yes.
    plainly c.args.policies.now c.args.policy c.args.number
    (λ q e.
    let same : q ≡ c.in-Some.profile.now = same_Some q c.in-Some.profile.now (sym e ∙ sym c.in-Some.ensures) in
    ap (λ (p : Profile). p.complain) same ∙ not-true c.in-Some.profile.now.complain yes)

pub returns-in-None : goal.returns-in-None
returns-in-None c = λ yes.
    plainly c.args.policies.now c.args.policy c.args.number
    (λ q e. absurd (let f : None ≡ Some q = c.in-None.ensures ∙ e in cc))
