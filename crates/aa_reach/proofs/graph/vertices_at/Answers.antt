use Rattle.std.proofs.Common.{refl}
use Rattle.aa_reach.specs.Answers.{IsVertex}
use Rattle.aa_reach.proofs.Zipped.{zipped_next}
use Rattle.aa_reach.proofs.graph.vertices_at.Goals as goal

pub loop-label-preserved : goal.loop-label-preserved
loop-label-preserved c =
    let b = c.args.beside in
    zipped_next (IsVertex c.args.unclean b.course.going.as_enforced b.course.going.policies.now b.skipped.now c.args.limit) c.args.labels.now c.loop-label.label-index _ _
    c.loop-label.vertices.items c.push.new.self.items c.in_ok-vertex_of.field-0
    c.loop-label-test.true refl c.in_ok-push.ensures.items c.in_ok-vertex_of.ensures c.loop-label.invariant
