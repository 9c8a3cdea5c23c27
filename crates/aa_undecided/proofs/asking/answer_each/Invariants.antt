use Rattle.std.proofs.Common.{◌≡◌, map, take}
use Rattle.aa_undecided.specs.Answers.{answered, answer_on}
use Rattle.aa_undecided.proofs.asking.answer_each.Given as goal

abbrev pub invariant-loop-request : goal.invariant-loop-request
invariant-loop-request l = map answered l.answers.items ≡ map (answer_on l.decided l.skipped l.opening) (take l.request-index l.requests)
