use Rattle.std.proofs.Common.{◌≡◌, map, take}
use Rattle.aa_engine.specs.Answers.{asked}
use Rattle.aa_engine.proofs.lending.all_lent.Given as goal

abbrev pub invariant-loop-task : goal.invariant-loop-task
invariant-loop-task l = map (λ q. q.items) l.all.items ≡ map (λ t. asked t.requests) (take l.task-index l.tasks)
