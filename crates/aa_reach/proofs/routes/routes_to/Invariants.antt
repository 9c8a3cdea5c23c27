use Rattle.std.proofs.Common.{◌≡◌, List, map, take, option_map}
use Rattle.aa_model.specs.declared.request.Request.{Request}
use Rattle.aa_reach.specs.Routes.{LeadThere, routed, all_routes}
use Rattle.aa_reach.proofs.routes.routes_to.Given as goal

abbrev pub invariant-loop-number : goal.invariant-loop-number
invariant-loop-number l = (ways : List (List Request)) → LeadThere l.going.as_enforced l.going.policies.now l.from l.arrivals ways
    → map routed l.routes.items ≡ all_routes l.going.as_enforced l.going.policies.now l.from (option_map (λ ts. ts.now) l.targets) l.but
    (take l.number l.arrivals) ways
