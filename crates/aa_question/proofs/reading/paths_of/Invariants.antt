use Rattle.std.proofs.Common.{◌≡◌, map, take}
use Rattle.aa_files.specs.Texts.{texts}
use Rattle.aa_question.proofs.reading.paths_of.Given as goal

abbrev pub invariant-loop-row : goal.invariant-loop-row
invariant-loop-row l = texts l.paths.items ≡ map (λ r. r.0.items) (take l.row-index l.rows)
