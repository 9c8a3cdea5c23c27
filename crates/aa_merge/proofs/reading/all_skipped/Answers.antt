use Rattle.std.proofs.Common.{◌≡◌, ◌+◌, ◌++◌, ◌∷◌, [], map, drop}
use Rattle.std.proofs.lemmas.Result.{err_from_is_err_and}
use Rattle.std.proofs.lemmas.List.{map_push, drop_all}
use Rattle.aa_merge.specs.Steps.{each}
use Rattle.json.specs.Value.{value_view}
use Rattle.aa_merge.specs.Reading.{passed_in}
use Rattle.aa_merge.specs.Held.{passed_data}
use Rattle.aa_merge.proofs.Turns.{nothing_before, next_is, step_on, step_ends, step_done}
use Rattle.aa_merge.proofs.reading.all_skipped.Goals as goal

pub loop-value-init : goal.loop-value-init
loop-value-init c = rw c.in_ok-found.ensures.items (nothing_before (each passed_in (map value_view c.args.list.now)))

pub returns-in_err-skipped : goal.returns-in_err-skipped
returns-in_err-skipped c =
    let p = err_from_is_err_and c.from_residual-in_err-skipped.result c.from_residual-in_err-skipped.ensures.1 in
    rw (p.1, p.2)
    (step_ends c.in_err-skipped.field-0.0 passed_in value_view (map passed_data c.loop-value.found.items) (drop c.loop-value.value-index c.args.list.now)
    (drop (c.loop-value.value-index + 1) c.args.list.now) c.value-item.result (each passed_in (map value_view c.args.list.now))
    (next_is c.args.list.now c.loop-value.value-index c.value-item.result c.loop-value-test.true c.value-item.is) c.in_err-skipped.ensures c.loop-value.invariant)

pub loop-value-preserved : goal.loop-value-preserved
loop-value-preserved c =
    let e : map passed_data c.push.new.self.items ≡ map passed_data c.loop-value.found.items ++ passed_data c.in_ok-skipped.field-0 ∷ [] = rw c.in_ok-push.ensures.items
    (map_push passed_data c.loop-value.found.items c.in_ok-skipped.field-0) in
    rw e (step_on passed_in value_view (map passed_data c.loop-value.found.items) (drop c.loop-value.value-index c.args.list.now)
    (drop (c.loop-value.value-index + 1) c.args.list.now) c.value-item.result (passed_data c.in_ok-skipped.field-0)
    (each passed_in (map value_view c.args.list.now))
    (next_is c.args.list.now c.loop-value.value-index c.value-item.result c.loop-value-test.true c.value-item.is) c.in_ok-skipped.ensures c.loop-value.invariant)

pub returns : goal.returns
returns c = step_done passed_in value_view (map passed_data c.loop-value.found.items) (drop c.loop-value.value-index c.args.list.now)
    (each passed_in (map value_view c.args.list.now)) (drop_all c.loop-value.value-index c.args.list.now c.loop-value-test.false) c.loop-value.invariant
