use Rattle.std.proofs.Common.{ℕ, sym, subst, add-one}
use Rattle.aa_load.specs.UnitPolicy.{limit_of}
use Rattle.aa_who.specs.Grants.{AreGrants, all_granted}
use Rattle.aa_who.proofs.granting.grants_of.Goals as goal

pub loop-number-preserved : goal.loop-number-preserved
loop-number-preserved c =
    subst (λ (k : ℕ). AreGrants c.args.decided (limit_of c.args.states) c.args.unclean c.args.word.now c.args.text.now k (all_granted c.push_grant_at.new.grants))
    (sym (add-one c.loop-number.number))
    (all_granted c.loop-number.grants, c.loop-number.invariant, c.in_ok-push_grant_at.ensures.granted)
