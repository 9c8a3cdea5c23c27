use Rattle.aa_glob.specs.Ways.{IsWalking, walk_left}
use Rattle.aa_glob.proofs.walk.walk.Given as goal

abbrev pub invariant-loop-part : goal.invariant-loop-part
invariant-loop-part l = IsWalking l.vars l.raw l.stack.items l.top l.done.entries

abbrev pub decreases-loop-part : goal.decreases-loop-part
decreases-loop-part l = walk_left l.vars l.done.entries l.stack.items l.top
