use Rattle.std.proofs.Common.{◌≡◌, ◌++◌, map, take, flat_map}
use Rattle.aa_ask.specs.Named.{lacked}
use Rattle.aa_ask.specs.Shown.{lack_line}
use Rattle.aa_ask.proofs.shown.push_lacks.Given as goal

abbrev pub invariant-loop-lack : goal.invariant-loop-lack
invariant-loop-lack l = l.out.items ≡ l.initial.out.items ++ flat_map lack_line (map lacked (take l.lack-index l.lacking))
