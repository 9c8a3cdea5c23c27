use Rattle.std.proofs.Common.{◌<◌, ◌++◌, [], ◌∷◌, length, take, sym, ap, ◌∙◌, arith}
use Rattle.std.proofs.lemmas.List.{take_more}
use Rattle.aa_pool.proofs.Closing.{rooms_more}
use Rattle.aa_pool.proofs.tasks.rooms_of.Goals as goal

pub loop-task-preserved : goal.loop-task-preserved
loop-task-preserved g c =
    let i = c.loop-task.invariant in
    let p = c.push_reserved.ensures in
    let made = c.in_ok-with_capacity.ensures {u = tt} in
    let tasks = c.args.tasks.now in
    let n : c.loop-task.task-index < length c.args.tasks.now = c.loop-task-test.true in
    let more = take_more tasks c.loop-task.task-index c.task-item.result n ∙ ap (λ t. take c.loop-task.task-index tasks ++ t ∷ []) (sym c.task-item.is) in
    record {
      rooms = rw (p.items, more) (rooms_more (take c.loop-task.task-index tasks) c.loop-task.rooms.items c.task-item.result c.in_ok-with_capacity.field-0 i.rooms made.items (omega (arith, made.capacity, c.len.ensures)));
      len = omega (arith, p.len, i.len);
      room = omega (arith, p.capacity, i.room);
    }
