use Rattle.std.proofs.Common.{◌≡◌, ◌++◌, flat_map}
use Rattle.aa_text.specs.Excerpts.{below}
use Rattle.aa_text.proofs.shown.push_below_text.Given as goal

abbrev pub invariant-loop-c : goal.invariant-loop-c
invariant-loop-c l = l.out.items ≡ l.initial.out.items ++ flat_map below l.yielded
