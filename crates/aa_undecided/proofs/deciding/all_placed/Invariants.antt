use Rattle.std.proofs.Common.{◌≡◌, map, take}
use Rattle.aa_undecided.specs.Answers.{placed, placed_all}
use Rattle.aa_undecided.proofs.deciding.all_placed.Given as goal

abbrev pub invariant-loop-file : goal.invariant-loop-file
invariant-loop-file l = placed_all l.files.items ≡ map placed (take l.file-index l.skipped)
