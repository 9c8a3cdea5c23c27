use Rattle.std.proofs.Common.{◌≡◌, ◌++◌, take, flat_map}
use Rattle.aa_reach.specs.Dot.{node_edges}
use Rattle.aa_reach.proofs.dot.push_all_edges.Given as goal

abbrev pub invariant-loop-vertex : goal.invariant-loop-vertex
invariant-loop-vertex l = l.out.items ≡ l.initial.out.items ++ flat_map node_edges (take l.vertex-index l.vertices)
