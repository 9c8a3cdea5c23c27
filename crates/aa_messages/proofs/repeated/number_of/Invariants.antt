use Rattle.std.proofs.Common.{◌≡◌, ◌≤◌, length}
use Rattle.aa_messages.specs.Repeated.{number_from}
use Rattle.aa_messages.proofs.repeated.number_of.Given as goal

abbrev pub invariant-loop-rest : goal.invariant-loop-rest
invariant-loop-rest l = record {
  value : number_from l.number l.rest ≡ number_from 0 l.digits;
  most : l.number ≤ 10000;
}

abbrev pub decreases-loop-rest : goal.decreases-loop-rest
decreases-loop-rest l = length l.rest
