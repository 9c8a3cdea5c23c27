use Rattle.std.proofs.Common.{◌≡◌, map, take}
use Rattle.std.specs.Prelude.{filter}
use Rattle.aa_undecided.specs.Answers.{placed, placed_all}
use Rattle.aa_reach.specs.Doubts.{opens}
use Rattle.aa_reach.proofs.doubts.files_opening_in.Given as goal

abbrev pub invariant-loop-file : goal.invariant-loop-file
invariant-loop-file l = placed_all l.files.items ≡ map placed (filter (opens l.compiled.profiles l.label) (take l.file-index l.skipped))
