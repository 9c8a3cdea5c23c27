use Rattle.std.proofs.Common.{◌≡◌, [], map, ap, arith, rules}
use Rattle.std.proofs.lemmas.Result.{err_from_is_err_and}
use Rattle.aa_jobs.specs.Steps.{each}
use Rattle.aa_jobs.specs.Made.{task_in}
use Rattle.aa_jobs.specs.Raw.{raw_task}
use Rattle.aa_jobs.proofs.Rows.{begins, none_left, step_on, step_ends, step_done}
use Rattle.aa_jobs.proofs.meaning.tasks.Goals as goal

pub loop-raw-init : goal.loop-raw-init
loop-raw-init c =
    let same : c.into_iter-raw-iterator.result.rest.items ≡ c.args.list.items = search rules in
    begins (task_in c.args.policies) _ _ _ c.in_ok-tasks.ensures.items (ap (map raw_task) same)

pub returns-in_err-task : goal.returns-in_err-task
returns-in_err-task c =
    let p = err_from_is_err_and c.from_residual-in_err-task.result c.from_residual-in_err-task.ensures.1 in
    rw (p.1, p.2)
    (step_ends c.in_err-task.field-0.0
    (task_in c.args.policies) raw_task c.loop-raw.tasks.items c.loop-raw.raw-iterator.rest.items c.next.new.self.rest.items c.in-Some.raw
    (each (task_in c.args.policies) (map raw_task c.args.list.items)) ((c.in-Some.ensures {u = tt}).steps.0) c.in_err-task.ensures c.loop-raw.invariant)

pub loop-raw-preserved : goal.loop-raw-preserved
loop-raw-preserved c =
    rw c.in_ok-push.ensures.items
    (step_on
    (task_in c.args.policies) raw_task c.loop-raw.tasks.items c.loop-raw.raw-iterator.rest.items c.next.new.self.rest.items c.in-Some.raw c.in_ok-task.field-0
    (each (task_in c.args.policies) (map raw_task c.args.list.items)) ((c.in-Some.ensures {u = tt}).steps.0) c.in_ok-task.ensures c.loop-raw.invariant)

pub returns : goal.returns
returns c =
    let none : c.loop-raw.raw-iterator.rest.items ≡ [] = none_left _ (omega (arith, c.loop-raw.raw-iterator.rest.ok, (c.in-None.ensures {u = tt}).steps.0)) in
    step_done (task_in c.args.policies) raw_task c.loop-raw.tasks.items c.loop-raw.raw-iterator.rest.items
    (each (task_in c.args.policies) (map raw_task c.args.list.items)) none c.loop-raw.invariant
