use Rattle.std.proofs.Common.{◌≡◌, ◌++◌, map, take, flat_map}
use Rattle.aa_reach.specs.Routes.{routed}
use Rattle.aa_reach.specs.Names.{name_in}
use Rattle.aa_reach.specs.Html.{html_apart_step}
use Rattle.aa_reach.proofs.html.push_apart_steps.Given as goal

abbrev pub invariant-loop-route : goal.invariant-loop-route
invariant-loop-route l = l.out.items ≡ l.initial.out.items ++ flat_map (html_apart_step (name_in l.from)) (map routed (take l.route-index l.routes))
