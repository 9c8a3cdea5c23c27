use Rattle.std.proofs.Common.{◌≡◌, map, take}
use Rattle.aa_undecided.specs.Answers.{placed_all}
use Rattle.aa_assert.specs.Sarif.{file_text}
use Rattle.aa_assert.specs.Listed.{files_in}
use Rattle.aa_assert.proofs.sarif.files_of.Given as goal

abbrev pub invariant-loop-file : goal.invariant-loop-file
invariant-loop-file l = files_in l.list.items ≡ map file_text (placed_all (take l.file-index l.files))
