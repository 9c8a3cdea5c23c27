use Rattle.std.proofs.Common.{◌≡◌, ◌++◌, map, take, flat_map}
use Rattle.aa_reach.specs.Doubts.{doubted}
use Rattle.aa_reach.specs.Html.{html_apart_doubt}
use Rattle.aa_reach.proofs.html.push_apart_doubts.Given as goal

abbrev pub invariant-loop-doubt : goal.invariant-loop-doubt
invariant-loop-doubt l = l.out.items ≡ l.initial.out.items ++ flat_map html_apart_doubt (map doubted (take l.doubt-index l.doubts))
