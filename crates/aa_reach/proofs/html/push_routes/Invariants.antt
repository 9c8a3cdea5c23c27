use Rattle.std.proofs.Common.{◌≡◌, ◌++◌, map, take, flat_map}
use Rattle.aa_reach.specs.Routes.{routed}
use Rattle.aa_reach.specs.Html.{html_route}
use Rattle.aa_reach.proofs.html.push_routes.Given as goal

abbrev pub invariant-loop-route : goal.invariant-loop-route
invariant-loop-route l = l.out.items ≡ l.initial.out.items ++ flat_map html_route (map routed (take l.route-index l.routes))
