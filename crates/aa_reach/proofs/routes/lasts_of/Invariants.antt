use Rattle.std.proofs.Common.{take}
use Rattle.aa_reach.proofs.Turning.{AreFirstLasts}
use Rattle.aa_reach.proofs.routes.lasts_of.Given as goal

abbrev pub invariant-loop-arrival : goal.invariant-loop-arrival
invariant-loop-arrival l = AreFirstLasts l.policies l.arrivals l.arrival-index l.lasts.items
