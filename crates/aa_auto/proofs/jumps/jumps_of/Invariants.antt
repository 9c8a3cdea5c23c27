use Rattle.std.proofs.Common.{map}
use Rattle.aa_auto.specs.Spots.{AreJumpsSoFar}
use Rattle.aa_auto.proofs.jumps.jumps_of.Given as goal

abbrev pub invariant-loop-position : goal.invariant-loop-position
invariant-loop-position l = AreJumpsSoFar l.nodes l.position (map (λ v. v.items) l.rows.items)
