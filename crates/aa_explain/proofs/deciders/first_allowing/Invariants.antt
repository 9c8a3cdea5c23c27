use Rattle.std.proofs.Common.{◌≡◌, ◌++◌, drop}
use Rattle.aa_explain.specs.Told.{first_told}
use Rattle.aa_explain.proofs.deciders.first_allowing.Given as goal

abbrev pub invariant-loop-rule : goal.invariant-loop-rule
invariant-loop-rule l = l.found.items ++ first_told (l.left.0) (drop l.rule-index l.told) ≡ first_told (l.fn.asked.0) l.told
