use Rattle.std.proofs.Common.{take}
use Rattle.aa_auto.specs.Noted.{AreNoted}
use Rattle.aa_auto.proofs.noted.note_set.Given as goal

abbrev pub invariant-loop-start : goal.invariant-loop-start
invariant-loop-start l = AreNoted l.nodes (take l.start-index l.set) l.mark l.named.items l.asked.items
