use Rattle.std.proofs.Common.{◌≡◌, map, take}
use Rattle.std.specs.Prelude.{filter}
use Rattle.aa_undecided.specs.Answers.{placed, placed_all, may_hold_one}
use Rattle.aa_undecided.proofs.opening.holders.Given as goal

abbrev pub invariant-loop-file : goal.invariant-loop-file
invariant-loop-file l = placed_all l.files.items ≡ map placed (filter may_hold_one (take l.file-index l.skipped))
