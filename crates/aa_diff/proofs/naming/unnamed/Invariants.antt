use Rattle.std.proofs.Common.{◌≡◌, length}
use Rattle.aa_files.specs.Texts.{texts}
use Rattle.aa_diff.specs.Naming.{unnamed}
use Rattle.aa_diff.proofs.naming.unnamed.Given as goal

abbrev pub invariant-loop-rest : goal.invariant-loop-rest
invariant-loop-rest l = unnamed l.old l.new (texts l.rest) ≡ unnamed l.old l.new (texts l.names)

abbrev pub decreases-loop-rest : goal.decreases-loop-rest
decreases-loop-rest l = length l.rest
