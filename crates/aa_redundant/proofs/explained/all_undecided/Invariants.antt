use Rattle.std.proofs.Common.{◌≡◌, map, take}
use Rattle.aa_redundant.specs.Told.{telling, all_undecided}
use Rattle.aa_redundant.proofs.explained.all_undecided.Given as goal

abbrev pub invariant-loop-reason : goal.invariant-loop-reason
invariant-loop-reason l = map telling l.rules.items ≡ all_undecided l.unsure l.units l.places (take l.reason-index l.reasons)
