use Rattle.std.proofs.Common.{take}
use Rattle.aa_auto.specs.Closed.{AddsAll}
use Rattle.aa_auto.proofs.closing.add_all.Given as goal

abbrev pub invariant-loop-number : goal.invariant-loop-number
invariant-loop-number l = AddsAll l.fn.indexes l.indexes l.fn.set.items l.set.items (take l.number-index l.numbers)
