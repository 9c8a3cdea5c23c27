use Rattle.std.proofs.Common.{◌+◌, map, drop}
use Rattle.std.proofs.lemmas.Result.{err_from_is_err_and}
use Rattle.std.proofs.lemmas.List.{drop_all}
use Rattle.aa_jobs.specs.Steps.{each}
use Rattle.aa_jobs.specs.Trees.{tree_data}
use Rattle.aa_jobs.specs.Shape.{text_in}
use Rattle.aa_jobs.proofs.Rows.{nothing_before, next_is, step_on, step_ends, step_done}
use Rattle.aa_jobs.proofs.shape.texts.Goals as goal

pub loop-value-init : goal.loop-value-init
loop-value-init c = rw c.in_ok-texts.ensures.items (nothing_before (each text_in (map tree_data c.args.list.now)))

pub returns-in_err-text_copy : goal.returns-in_err-text_copy
returns-in_err-text_copy c =
    let p = err_from_is_err_and c.from_residual-in_err-text_copy.result c.from_residual-in_err-text_copy.ensures.1 in
    rw (p.1, p.2)
    (step_ends c.in_err-text_copy.field-0.0 text_in tree_data c.loop-value.texts.items (drop c.loop-value.value-index c.args.list.now)
    (drop (c.loop-value.value-index + 1) c.args.list.now) c.value-item.result (each text_in (map tree_data c.args.list.now))
    (next_is c.args.list.now c.loop-value.value-index c.value-item.result c.loop-value-test.true c.value-item.is) c.in_err-text_copy.ensures
    c.loop-value.invariant)

pub loop-value-preserved : goal.loop-value-preserved
loop-value-preserved c =
    rw c.in_ok-push.ensures.items (step_on text_in tree_data c.loop-value.texts.items (drop c.loop-value.value-index c.args.list.now)
    (drop (c.loop-value.value-index + 1) c.args.list.now) c.value-item.result c.in_ok-text_copy.field-0
    (each text_in (map tree_data c.args.list.now))
    (next_is c.args.list.now c.loop-value.value-index c.value-item.result c.loop-value-test.true c.value-item.is) c.in_ok-text_copy.ensures
    c.loop-value.invariant)

pub returns : goal.returns
returns c = step_done text_in tree_data c.loop-value.texts.items (drop c.loop-value.value-index c.args.list.now)
    (each text_in (map tree_data c.args.list.now)) (drop_all c.loop-value.value-index c.args.list.now c.loop-value-test.false) c.loop-value.invariant
