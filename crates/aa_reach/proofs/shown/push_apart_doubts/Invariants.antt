use Rattle.std.proofs.Common.{◌≡◌, ◌++◌, map, take, flat_map}
use Rattle.aa_reach.specs.Names.{name_in}
use Rattle.aa_reach.specs.Doubts.{doubted}
use Rattle.aa_reach.specs.Shown.{apart_doubt_lines}
use Rattle.aa_reach.proofs.shown.push_apart_doubts.Given as goal

abbrev pub invariant-loop-doubt : goal.invariant-loop-doubt
invariant-loop-doubt l =
    l.out.items ≡ l.initial.out.items ++ flat_map (apart_doubt_lines l.manner (name_in l.from)) (map doubted (take l.doubt-index l.doubts))
