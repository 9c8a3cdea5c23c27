use Rattle.std.proofs.Common.{◌≡◌, map, take}
use Rattle.aa_log.specs.Orders.{items_at}
use Rattle.aa_log.proofs.logging.skipped_at.Given as goal

abbrev pub invariant-loop-number : goal.invariant-loop-number
invariant-loop-number l = map (λ s. s.now) l.found.items ≡ items_at l.skipped (take l.number-index l.numbers)
