use Rattle.std.proofs.Common.{◌≡◌, map, take}
use Rattle.std.specs.Prelude.{filter}
use Rattle.aa_undecided.specs.Answers.{placed, placed_all, could_decide}
use Rattle.aa_undecided.proofs.deciding.files_among.Given as goal

abbrev pub invariant-loop-file : goal.invariant-loop-file
invariant-loop-file l = placed_all l.files.items ≡ map placed (filter (could_decide l.compiled.profiles l.label l.request) (take l.file-index l.skipped))
