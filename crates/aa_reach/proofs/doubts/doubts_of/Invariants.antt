use Rattle.std.proofs.Common.{◌≡◌, map, take}
use Rattle.std.specs.Prelude.{flat_map}
use Rattle.aa_reach.specs.Doubts.{doubted, doubted_but}
use Rattle.aa_reach.proofs.doubts.doubts_of.Given as goal

abbrev pub invariant-loop-arrival : goal.invariant-loop-arrival
invariant-loop-arrival l = map doubted l.doubts.items ≡ flat_map (doubted_but l.policies l.skipped l.but) (take l.arrival-index l.arrivals)
