use Rattle.std.proofs.Common.{◌≡◌, length}
use Rattle.aa_files.specs.Texts.{texts}
use Rattle.aa_lint.specs.Command.{first_unknown}
use Rattle.aa_lint.proofs.command.first_unknown.Given as goal

abbrev pub invariant-loop-rest : goal.invariant-loop-rest
invariant-loop-rest l = first_unknown (texts l.rest) ≡ first_unknown (texts l.names)

abbrev pub decreases-loop-rest : goal.decreases-loop-rest
decreases-loop-rest l = length l.rest
