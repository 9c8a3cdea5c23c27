use Rattle.std.proofs.Common.{drop}
use Rattle.aa_engine.specs.Answers.{asked}
use Rattle.aa_engine.proofs.Answering.{Asking}
use Rattle.aa_engine.proofs.deciding.requests_of.Given as goal

abbrev pub invariant-loop-work : goal.invariant-loop-work
invariant-loop-work l = Asking l.requests.items (drop l.work-index l.works) (asked l.works)
