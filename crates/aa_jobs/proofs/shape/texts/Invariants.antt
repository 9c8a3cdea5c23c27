use Rattle.std.proofs.Common.{◌≡◌, map, drop}
use Rattle.aa_jobs.specs.Steps.{each}
use Rattle.aa_jobs.specs.Trees.{tree_data}
use Rattle.aa_jobs.specs.Shape.{text_in}
use Rattle.aa_jobs.proofs.Rows.{with_front}
use Rattle.aa_jobs.proofs.shape.texts.Given as goal

abbrev pub invariant-loop-value : goal.invariant-loop-value
invariant-loop-value l = with_front l.texts.items (each text_in (map tree_data (drop l.value-index l.list))) ≡ each text_in (map tree_data l.list)
