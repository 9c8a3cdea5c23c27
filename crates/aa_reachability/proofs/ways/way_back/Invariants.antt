use Rattle.std.proofs.Common.{◌≡◌, ◌<◌, ◌++◌, List, length, reverse}
use Rattle.aa_model.specs.declared.request.Request.{Request}
use Rattle.aa_reachability.specs.Reach.{AreWays, way_at}
use Rattle.aa_reachability.proofs.ways.way_back.Given as goal

abbrev pub invariant-loop-at : goal.invariant-loop-at
invariant-loop-at l = record {
  within : l.at < length l.arrivals;
  rest : (ways : List (List Request)) → AreWays l.arrivals ways → way_at ways l.number ≡ way_at ways l.at ++ reverse l.way.items;
}

abbrev pub decreases-loop-at : goal.decreases-loop-at
decreases-loop-at l = l.at
