use Rattle.std.proofs.Common.{◌≡◌, ◌++◌, map, take, flat_map}
use Rattle.aa_reach.specs.Routes.{turned}
use Rattle.aa_reach.specs.Shown.{turn_text}
use Rattle.aa_reach.proofs.shown.push_turns.Given as goal

abbrev pub invariant-loop-turn : goal.invariant-loop-turn
invariant-loop-turn l = l.out.items ≡ l.initial.out.items ++ flat_map turn_text (map turned (take l.turn-index l.turns))
