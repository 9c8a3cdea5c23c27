use Rattle.std.proofs.Common.{◌≡◌, length}
use Rattle.aa_files.specs.Names.{names_in_angles}
use Rattle.aa_files.proofs.unit.is_in_angles.Given as goal

abbrev pub invariant-loop-rest : goal.invariant-loop-rest
invariant-loop-rest l = names_in_angles l.rest ≡ names_in_angles l.include

abbrev pub decreases-loop-rest : goal.decreases-loop-rest
decreases-loop-rest l = length l.rest
