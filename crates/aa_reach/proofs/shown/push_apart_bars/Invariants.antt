use Rattle.std.proofs.Common.{◌≡◌, ◌++◌, map, take, flat_map}
use Rattle.aa_reach.specs.Names.{name_in}
use Rattle.aa_reach.specs.Routes.{barred}
use Rattle.aa_reach.specs.Shown.{apart_bar_line}
use Rattle.aa_reach.proofs.shown.push_apart_bars.Given as goal

abbrev pub invariant-loop-bar : goal.invariant-loop-bar
invariant-loop-bar l = l.out.items ≡ l.initial.out.items ++ flat_map (apart_bar_line l.manner (name_in l.from)) (map barred (take l.bar-index l.bars))
