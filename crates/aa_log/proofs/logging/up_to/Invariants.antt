use Rattle.std.proofs.Common.{◌≡◌}
use Rattle.aa_log.specs.Orders.{up_to}
use Rattle.aa_log.proofs.logging.up_to.Given as goal

abbrev pub invariant-loop-number : goal.invariant-loop-number
invariant-loop-number l = l.numbers.items ≡ up_to l.number
