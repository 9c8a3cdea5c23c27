use Rattle.std.proofs.Common.{take}
use Rattle.std.specs.List.{AllZip}
use Rattle.aa_reach.specs.Answers.{IsVertex}
use Rattle.aa_reach.proofs.graph.vertices_at.Given as goal

abbrev pub invariant-loop-label : goal.invariant-loop-label
invariant-loop-label l =
    AllZip (IsVertex l.unclean l.beside.course.going.as_enforced l.beside.course.going.policies.now l.beside.skipped.now l.limit) (take l.label-index l.labels)
    l.vertices.items
