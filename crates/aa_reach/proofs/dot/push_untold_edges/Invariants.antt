use Rattle.std.proofs.Common.{◌≡◌, ◌++◌, take, flat_map}
use Rattle.aa_reach.specs.Dot.{untold_edges}
use Rattle.aa_reach.proofs.dot.push_untold_edges.Given as goal

abbrev pub invariant-loop-vertex : goal.invariant-loop-vertex
invariant-loop-vertex l = l.out.items ≡ l.initial.out.items ++ flat_map (untold_edges l.limit) (take l.vertex-index l.vertices)
