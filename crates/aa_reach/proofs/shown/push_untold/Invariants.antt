use Rattle.std.proofs.Common.{◌≡◌, ◌++◌, take, flat_map}
use Rattle.aa_reach.specs.Shown.{untold_text}
use Rattle.aa_reach.proofs.shown.push_untold.Given as goal

abbrev pub invariant-loop-answer : goal.invariant-loop-answer
invariant-loop-answer l = l.out.items ≡ l.initial.out.items ++ flat_map (untold_text l.limit) (take l.answer-index l.answers)
