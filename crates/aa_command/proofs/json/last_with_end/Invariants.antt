use Rattle.std.proofs.Common.{◌≡◌, length}
use Rattle.aa_command.specs.Sayings.{last_from}
use Rattle.aa_command.proofs.json.last_with_end.Given as goal

abbrev pub invariant-loop-rest : goal.invariant-loop-rest
invariant-loop-rest l = last_from l.line l.rest ≡ last_from l.lines l.lines

abbrev pub decreases-loop-rest : goal.decreases-loop-rest
decreases-loop-rest l = length l.rest
