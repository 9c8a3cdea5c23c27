use Rattle.std.proofs.Common.{◌≡◌, ◌++◌, take, flat_map}
use Rattle.aa_reach.specs.Html.{html_steps}
use Rattle.aa_reach.proofs.html.push_each_step.Given as goal

abbrev pub invariant-loop-vertex : goal.invariant-loop-vertex
invariant-loop-vertex l = l.out.items ≡ l.initial.out.items ++ flat_map html_steps (take l.vertex-index l.vertices)
