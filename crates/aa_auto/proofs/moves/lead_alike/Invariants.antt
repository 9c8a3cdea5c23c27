use Rattle.std.proofs.Common.{take}
use Rattle.aa_auto.specs.Spots.{LeadAlike}
use Rattle.aa_auto.proofs.moves.lead_alike.Given as goal

abbrev pub invariant-loop-start : goal.invariant-loop-start
invariant-loop-start l = LeadAlike l.nodes l.a l.b (take l.start-index l.set)
