use Rattle.std.proofs.Common.{◌≡◌, map, drop}
use Rattle.aa_jobs.specs.Steps.{each}
use Rattle.aa_jobs.specs.Made.{event_in}
use Rattle.aa_jobs.specs.Raw.{raw_event}
use Rattle.aa_jobs.proofs.Rows.{with_front}
use Rattle.aa_jobs.proofs.meaning.events.Given as goal

abbrev pub invariant-loop-raw : goal.invariant-loop-raw
invariant-loop-raw l = with_front l.events.items (each (event_in l.tasks) (map raw_event (drop l.raw-index l.list)))
    ≡ each (event_in l.tasks) (map raw_event l.list)
