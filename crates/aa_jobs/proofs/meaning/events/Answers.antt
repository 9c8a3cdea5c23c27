use Rattle.std.proofs.Common.{◌+◌, map, drop}
use Rattle.std.proofs.lemmas.Result.{err_from_is_err_and}
use Rattle.std.proofs.lemmas.List.{drop_all}
use Rattle.aa_jobs.specs.Steps.{each}
use Rattle.aa_jobs.specs.Made.{event_in}
use Rattle.aa_jobs.specs.Raw.{raw_event}
use Rattle.aa_jobs.proofs.Rows.{nothing_before, next_at, step_on, step_ends, step_done}
use Rattle.aa_jobs.proofs.meaning.events.Goals as goal

pub loop-raw-init : goal.loop-raw-init
loop-raw-init c = rw c.in_ok-events.ensures.items (nothing_before (each (event_in c.args.tasks) (map raw_event c.args.list.now)))

pub returns-in_err-event : goal.returns-in_err-event
returns-in_err-event c =
    let p = err_from_is_err_and c.from_residual-in_err-event.result c.from_residual-in_err-event.ensures.1 in
    rw (p.1, p.2)
    (step_ends c.in_err-event.field-0.0 (event_in c.args.tasks) raw_event c.loop-raw.events.items (drop c.loop-raw.raw-index c.args.list.now)
    (drop (c.loop-raw.raw-index + 1) c.args.list.now) _ (each (event_in c.args.tasks) (map raw_event c.args.list.now))
    (next_at c.args.list.now c.loop-raw.raw-index _ c.loop-raw-test.true) c.in_err-event.ensures c.loop-raw.invariant)

pub loop-raw-preserved : goal.loop-raw-preserved
loop-raw-preserved c =
    rw c.in_ok-push.ensures.items
    (step_on (event_in c.args.tasks) raw_event c.loop-raw.events.items (drop c.loop-raw.raw-index c.args.list.now)
    (drop (c.loop-raw.raw-index + 1) c.args.list.now) _ c.in_ok-event.field-0 (each (event_in c.args.tasks) (map raw_event c.args.list.now))
    (next_at c.args.list.now c.loop-raw.raw-index _ c.loop-raw-test.true) c.in_ok-event.ensures c.loop-raw.invariant)

pub returns : goal.returns
returns c = step_done (event_in c.args.tasks) raw_event c.loop-raw.events.items (drop c.loop-raw.raw-index c.args.list.now)
    (each (event_in c.args.tasks) (map raw_event c.args.list.now)) (drop_all c.loop-raw.raw-index c.args.list.now c.loop-raw-test.false) c.loop-raw.invariant
