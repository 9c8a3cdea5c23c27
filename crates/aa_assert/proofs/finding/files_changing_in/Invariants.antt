use Rattle.std.proofs.Common.{◌≡◌, map, take}
use Rattle.std.specs.Prelude.{filter}
use Rattle.aa_undecided.specs.Answers.{placed, placed_all}
use Rattle.aa_assert.specs.Findings.{could_change}
use Rattle.aa_assert.proofs.finding.files_changing_in.Given as goal

abbrev pub invariant-loop-file : goal.invariant-loop-file
invariant-loop-file l = placed_all l.files.items ≡ map placed (filter (could_change l.compiled.profiles l.label l.word) (take l.file-index l.skipped))
