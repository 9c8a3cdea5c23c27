use Rattle.std.proofs.Common.{◌≡◌}
use Rattle.aa_diff.specs.Untold.{decided_of}
use Rattle.aa_diff.proofs.deciding.decided_of.Given as goal

abbrev pub invariant-loop-difference : goal.invariant-loop-difference
invariant-loop-difference l = l.kept.items ≡ decided_of l.old l.new l.yielded
