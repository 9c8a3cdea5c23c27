use Rattle.std.proofs.Common.{◌≡◌, ◌<◌, ◌++◌, List, length, map, reverse}
use Rattle.aa_model.specs.declared.label.Label.{Label}
use Rattle.aa_model.specs.declared.request.Request.{Request}
use Rattle.aa_reachability.specs.Reach.{way_at}
use Rattle.aa_reach.specs.Routes.{turned, turns_by, LeadThere}
use Rattle.aa_reach.proofs.routes.turns_back.Given as goal

abbrev pub invariant-loop-at : goal.invariant-loop-at
invariant-loop-at l = record {
  within : l.at < length l.arrivals;
  rest : (from : Label) (ways : List (List Request)) → LeadThere l.going.as_enforced l.going.policies.now from l.arrivals ways
      → turns_by l.going.as_enforced l.going.policies.now from (way_at ways l.number)
      ≡ turns_by l.going.as_enforced l.going.policies.now from (way_at ways l.at) ++ reverse (map turned l.turns.items);
}

abbrev pub decreases-loop-at : goal.decreases-loop-at
decreases-loop-at l = l.at
