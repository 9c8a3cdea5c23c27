use Rattle.std.proofs.Common.{◌≡◌, ◌++◌, replicate}
use Rattle.aa_text.proofs.shown.push_spaces.Given as goal

abbrev pub invariant-loop-i : goal.invariant-loop-i
invariant-loop-i l = l.out.items ≡ l.initial.out.items ++ replicate l._i 32
