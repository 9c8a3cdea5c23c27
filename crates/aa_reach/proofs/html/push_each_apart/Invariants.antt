use Rattle.std.proofs.Common.{◌≡◌, ◌++◌, map, take, flat_map}
use Rattle.aa_reach.specs.Routes.{routed}
use Rattle.aa_reach.specs.Html.{html_apart}
use Rattle.aa_reach.proofs.html.push_each_apart.Given as goal

abbrev pub invariant-loop-route : goal.invariant-loop-route
invariant-loop-route l = l.out.items ≡ l.initial.out.items ++ flat_map html_apart (map routed (take l.route-index l.routes))
