use Rattle.aa_load.specs.UnitPolicy.{limit_of}
use Rattle.aa_who.specs.Grants.{AreGrants, all_granted}
use Rattle.aa_who.proofs.granting.grants_of.Given as goal

abbrev pub invariant-loop-number : goal.invariant-loop-number
invariant-loop-number l = AreGrants l.decided (limit_of l.states) l.unclean l.word l.text l.number (all_granted l.grants)
