use Rattle.std.proofs.Common.{ℕ, List, [], get_or, Bor, refl}
use Rattle.aa_job.proofs.Tasking.{tasks_none, tasks_more, tasks_all, unread_behind}
use Rattle.aa_job.proofs.command.read_tasks.Goals as goal

pub loop-path-init : goal.loop-path-init
loop-path-init g c = tasks_none (g.R.Logs.lying c.args.reader.now) c.args.tasks.now c.requires

pub loop-path-preserved : goal.loop-path-preserved
loop-path-preserved g c =
    let first = c.args.tasks.now in
    let paths = c.args.logs.now in
    let i = c.loop-path.path-index in
    let none : Bor (List ℕ) = record { ref_ptr = (0, 0); now = [] } in
    tasks_more (g.R.Logs.lying c.args.reader.now) first.policies.now first.choice paths i none (get_or paths i none) c.loop-path.tasks c.read_lines.new.lines c.loop-path-test.true refl c.in-Ok.ensures.taken
    (c.in-Ok.ensures.keeps c.loop-path.tasks (refl, refl)) c.loop-path.invariant

pub returns-clause-taken : goal.returns-clause-taken
returns-clause-taken g c =
    tasks_all (g.R.Logs.lying c.args.reader.now) c.args.tasks.now.policies.now c.args.tasks.now.choice c.args.logs.now c.loop-path.path-index c.loop-path.tasks c.loop-path-test.false c.loop-path.invariant

pub returns-in-Err-clause-unread : goal.returns-in-Err-clause-unread
returns-in-Err-clause-unread g c =
    let first = c.args.tasks.now in
    let none : Bor (List ℕ) = record { ref_ptr = (0, 0); now = [] } in
    unread_behind (g.R.Logs.lying c.args.reader.now) first.policies.now first.choice c.args.logs.now c.loop-path.path-index none
    (get_or c.args.logs.now c.loop-path.path-index none) c.loop-path.tasks c.loop-path-test.true refl c.loop-path.invariant
