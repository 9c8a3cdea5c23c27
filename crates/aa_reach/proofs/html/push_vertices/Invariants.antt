use Rattle.std.proofs.Common.{◌≡◌, ◌++◌, take, flat_map}
use Rattle.aa_reach.specs.Html.{html_node}
use Rattle.aa_reach.proofs.html.push_vertices.Given as goal

abbrev pub invariant-loop-vertex : goal.invariant-loop-vertex
invariant-loop-vertex l = l.out.items ≡ l.initial.out.items ++ flat_map (html_node l.count) (take l.vertex-index l.vertices)
