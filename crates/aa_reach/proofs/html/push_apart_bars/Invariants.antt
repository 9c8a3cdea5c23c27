use Rattle.std.proofs.Common.{◌≡◌, ◌++◌, map, take, flat_map}
use Rattle.aa_reach.specs.Routes.{barred}
use Rattle.aa_reach.specs.Html.{html_apart_bar}
use Rattle.aa_reach.proofs.html.push_apart_bars.Given as goal

abbrev pub invariant-loop-bar : goal.invariant-loop-bar
invariant-loop-bar l = l.out.items ≡ l.initial.out.items ++ flat_map html_apart_bar (map barred (take l.bar-index l.bars))
