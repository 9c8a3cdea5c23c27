use Rattle.std.proofs.Common.{◌≡◌, map, take}
use Rattle.aa_undecided.specs.Answers.{placed_all, answered, undecided_by}
use Rattle.aa_undecided.proofs.asking.answer_none.Given as goal

abbrev pub invariant-loop-request : goal.invariant-loop-request
invariant-loop-request l = map answered l.answers.items ≡ map (undecided_by (placed_all l.files)) (take l.request-index l.requests)
