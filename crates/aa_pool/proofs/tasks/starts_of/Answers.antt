use Rattle.std.proofs.Common.{◌<◌, ◌++◌, [], ◌∷◌, map, length, take, sym, ap, ◌∙◌, arith}
use Rattle.std.proofs.lemmas.List.{map-append, take_all, take_more}
use Rattle.aa_pool.proofs.tasks.starts_of.Goals as goal

pub loop-task-preserved : goal.loop-task-preserved
loop-task-preserved g c =
    let i = c.loop-task.invariant in
    let p = c.push_reserved.ensures in
    let tasks = c.args.tasks.now in
    let n : c.loop-task.task-index < length c.args.tasks.now = c.loop-task-test.true in
    let more = take_more tasks c.loop-task.task-index c.task-item.result n ∙ ap (λ t. take c.loop-task.task-index tasks ++ t ∷ []) (sym c.task-item.is) in
    record {
      starts = rw (p.items, more, map-append (λ t. t.start) (take c.loop-task.task-index tasks) (c.task-item.result ∷ [])) (ap (λ l. l ++ c.task-item.result.start ∷ []) i.starts);
      len = omega (arith, p.len, i.len);
      room = omega (arith, p.capacity, i.room);
    }

pub returns : goal.returns
returns g c = c.loop-task.invariant.starts ∙ ap (map (λ t. t.start)) (take_all c.loop-task.task-index c.args.tasks.now c.loop-task-test.false)
