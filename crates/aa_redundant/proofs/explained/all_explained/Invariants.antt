use Rattle.std.proofs.Common.{◌≡◌, map, take}
use Rattle.aa_redundant.specs.Told.{explaining, all_explained}
use Rattle.aa_redundant.proofs.explained.all_explained.Given as goal

abbrev pub invariant-loop-reason : goal.invariant-loop-reason
invariant-loop-reason l = map explaining l.found.items ≡ all_explained l.unsure l.units l.places (take l.reason-index l.reasons)
