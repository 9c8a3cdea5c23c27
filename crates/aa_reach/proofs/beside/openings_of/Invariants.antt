use Rattle.std.proofs.Common.{◌+◌}
use Rattle.aa_reach.specs.Doubts.{AreOpened}
use Rattle.aa_reach.proofs.beside.openings_of.Given as goal

abbrev pub invariant-loop-number : goal.invariant-loop-number
invariant-loop-number l = AreOpened l.policies l.skipped (l.number + 1) l.openings.items
