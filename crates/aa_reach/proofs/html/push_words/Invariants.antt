use Rattle.std.proofs.Common.{◌≡◌, ◌++◌, map, take, flat_map}
use Rattle.aa_reach.specs.Routes.{turned}
use Rattle.aa_reach.specs.Html.{html_turn}
use Rattle.aa_reach.proofs.html.push_words.Given as goal

abbrev pub invariant-loop-turn : goal.invariant-loop-turn
invariant-loop-turn l = l.out.items ≡ l.initial.out.items ++ flat_map html_turn (map turned (take l.turn-index l.turns))
