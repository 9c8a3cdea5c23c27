use Rattle.std.proofs.Common.{◌≡◌, ◌+◌, ◌++◌, ◌∷◌, [], map, drop}
use Rattle.std.proofs.lemmas.Result.{err_from_is_err_and}
use Rattle.std.proofs.lemmas.List.{map_push, drop_all}
use Rattle.aa_jobs.specs.Steps.{each}
use Rattle.aa_jobs.specs.Trees.{tree_data}
use Rattle.aa_jobs.specs.Made.{made_event_shape}
use Rattle.aa_jobs.specs.Raw.{raw_event}
use Rattle.aa_jobs.proofs.Rows.{nothing_before, next_is, step_on, step_ends, step_done}
use Rattle.aa_jobs.proofs.shape.events.Goals as goal

pub loop-value-init : goal.loop-value-init
loop-value-init c = rw c.in_ok-events.ensures.items (nothing_before (each made_event_shape (map tree_data c.args.list.now)))

pub returns-in_err-event : goal.returns-in_err-event
returns-in_err-event c =
    let p = err_from_is_err_and c.from_residual-in_err-event.result c.from_residual-in_err-event.ensures.1 in
    rw (p.1, p.2)
    (step_ends c.in_err-event.field-0.0 made_event_shape tree_data (map raw_event c.loop-value.events.items) (drop c.loop-value.value-index c.args.list.now)
    (drop (c.loop-value.value-index + 1) c.args.list.now) c.value-item.result (each made_event_shape (map tree_data c.args.list.now))
    (next_is c.args.list.now c.loop-value.value-index c.value-item.result c.loop-value-test.true c.value-item.is) c.in_err-event.ensures c.loop-value.invariant)

pub loop-value-preserved : goal.loop-value-preserved
loop-value-preserved c =
    let e : map raw_event c.push.new.self.items ≡ map raw_event c.loop-value.events.items ++ raw_event c.in_ok-event.field-0 ∷ [] = rw c.in_ok-push.ensures.items (map_push raw_event c.loop-value.events.items c.in_ok-event.field-0) in
    rw e (step_on made_event_shape tree_data (map raw_event c.loop-value.events.items) (drop c.loop-value.value-index c.args.list.now)
    (drop (c.loop-value.value-index + 1) c.args.list.now) c.value-item.result (raw_event c.in_ok-event.field-0)
    (each made_event_shape (map tree_data c.args.list.now))
    (next_is c.args.list.now c.loop-value.value-index c.value-item.result c.loop-value-test.true c.value-item.is) c.in_ok-event.ensures c.loop-value.invariant)

pub returns : goal.returns
returns c = step_done made_event_shape tree_data (map raw_event c.loop-value.events.items) (drop c.loop-value.value-index c.args.list.now)
    (each made_event_shape (map tree_data c.args.list.now)) (drop_all c.loop-value.value-index c.args.list.now c.loop-value-test.false) c.loop-value.invariant
