use Rattle.std.proofs.Common.{◌≡◌, ◌++◌, map, length, Some}
use Rattle.aa_undecided.specs.Answers.{answered, in_turn}
use Rattle.aa_undecided.proofs.asking.answer_in_turn.Given as goal

abbrev pub invariant-loop-rest : goal.invariant-loop-rest
invariant-loop-rest l = map answered l.answers.items ++ in_turn l.decided l.skipped l.label l.rest ≡ in_turn l.decided l.skipped (Some l.fn.opening) l.requests

abbrev pub decreases-loop-rest : goal.decreases-loop-rest
decreases-loop-rest l = length l.rest
