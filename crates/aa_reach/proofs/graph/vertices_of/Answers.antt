use Rattle.std.proofs.Common.{List, Vec, ◌∙◌, subst}
use Rattle.std.specs.List.{AllZip}
use Rattle.std.specs.declared.alloc.Global.{Global}
use Rattle.std.proofs.lemmas.Result.{IfOk-weaker}
use Rattle.aa_model.specs.declared.label.Label.{Label}
use Rattle.aa_reach.specs.declared.graph.Vertex.{Vertex}
use Rattle.aa_reach.specs.Answers.{IsVertex, AreVertices}
use Rattle.aa_reach.proofs.graph.vertices_of.Goals as goal

pub returns : goal.returns
returns c =
    let b = c.args.beside in
    let e = b.course.going.as_enforced in
    let ps = b.course.going.policies.now in
    let Is = IsVertex c.args.unclean e ps b.skipped.now c.args.limit in
    IfOk-weaker c.vertices_at.result (λ (list : Vec Vertex Global). AllZip Is c.as_slice.result.now list.items)
    (λ (list : Vec Vertex Global). AreVertices c.args.unclean e ps b.skipped.now c.args.limit list.items)
    (λ list are. subst (λ (ls : List Label). AllZip Is ls list.items) (c.as_slice.ensures.value ∙ c.in_ok-labels.ensures) are) c.vertices_at.ensures
