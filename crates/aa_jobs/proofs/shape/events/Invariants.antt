use Rattle.std.proofs.Common.{◌≡◌, map, drop}
use Rattle.aa_jobs.specs.Steps.{each}
use Rattle.aa_jobs.specs.Trees.{tree_data}
use Rattle.aa_jobs.specs.Made.{made_event_shape}
use Rattle.aa_jobs.specs.Raw.{raw_event}
use Rattle.aa_jobs.proofs.Rows.{with_front}
use Rattle.aa_jobs.proofs.shape.events.Given as goal

abbrev pub invariant-loop-value : goal.invariant-loop-value
invariant-loop-value l = with_front (map raw_event l.events.items) (each made_event_shape (map tree_data (drop l.value-index l.list)))
    ≡ each made_event_shape (map tree_data l.list)
