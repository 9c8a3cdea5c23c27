use Rattle.std.proofs.Common.{◌≡◌, map, take, flat_map}
use Rattle.aa_reach.specs.Routes.{turned}
use Rattle.aa_reach.specs.Dot.{edge_word}
use Rattle.aa_reach.proofs.dot.words_of.Given as goal

abbrev pub invariant-loop-turn : goal.invariant-loop-turn
invariant-loop-turn l = l.text.items ≡ flat_map edge_word (map turned (take l.turn-index l.turns))
