use Rattle.std.proofs.Common.{◌≡◌, ◌+◌, ◌++◌, ◌∷◌, [], map, drop}
use Rattle.std.proofs.lemmas.Result.{err_from_is_err_and}
use Rattle.std.proofs.lemmas.List.{map_push, drop_all}
use Rattle.aa_merge.specs.Steps.{each}
use Rattle.json.specs.Value.{value_view}
use Rattle.aa_merge.specs.Reading.{row_in}
use Rattle.aa_merge.specs.Held.{row_data}
use Rattle.aa_merge.proofs.Turns.{nothing_before, next_is, step_on, step_ends, step_done}
use Rattle.aa_merge.proofs.reading.rows.Goals as goal

pub loop-value-init : goal.loop-value-init
loop-value-init c = rw c.in_ok-rows.ensures.items (nothing_before (each row_in (map value_view c.args.list.now)))

pub returns-in_err-row : goal.returns-in_err-row
returns-in_err-row c =
    let p = err_from_is_err_and c.from_residual-in_err-row.result c.from_residual-in_err-row.ensures.1 in
    rw (p.1, p.2)
    (step_ends c.in_err-row.field-0.0 row_in value_view (map row_data c.loop-value.rows.items) (drop c.loop-value.value-index c.args.list.now)
    (drop (c.loop-value.value-index + 1) c.args.list.now) c.value-item.result (each row_in (map value_view c.args.list.now))
    (next_is c.args.list.now c.loop-value.value-index c.value-item.result c.loop-value-test.true c.value-item.is) c.in_err-row.ensures c.loop-value.invariant)

pub loop-value-preserved : goal.loop-value-preserved
loop-value-preserved c =
    let e : map row_data c.push.new.self.items ≡ map row_data c.loop-value.rows.items ++ row_data c.in_ok-row.field-0 ∷ [] = rw c.in_ok-push.ensures.items
    (map_push row_data c.loop-value.rows.items c.in_ok-row.field-0) in
    rw e (step_on row_in value_view (map row_data c.loop-value.rows.items) (drop c.loop-value.value-index c.args.list.now)
    (drop (c.loop-value.value-index + 1) c.args.list.now) c.value-item.result (row_data c.in_ok-row.field-0) (each row_in (map value_view c.args.list.now))
    (next_is c.args.list.now c.loop-value.value-index c.value-item.result c.loop-value-test.true c.value-item.is) c.in_ok-row.ensures c.loop-value.invariant)

pub returns : goal.returns
returns c = step_done row_in value_view (map row_data c.loop-value.rows.items) (drop c.loop-value.value-index c.args.list.now)
    (each row_in (map value_view c.args.list.now)) (drop_all c.loop-value.value-index c.args.list.now c.loop-value-test.false) c.loop-value.invariant
