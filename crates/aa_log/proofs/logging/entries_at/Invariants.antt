use Rattle.std.proofs.Common.{◌≡◌, map, take}
use Rattle.aa_log.specs.Orders.{items_at}
use Rattle.aa_log.proofs.logging.entries_at.Given as goal

abbrev pub invariant-loop-number : goal.invariant-loop-number
invariant-loop-number l = map (λ e. e.now) l.found.items ≡ items_at l.entries (take l.number-index l.numbers)
