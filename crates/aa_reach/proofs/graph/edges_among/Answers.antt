use Rattle.std.proofs.Common.{map, sym, ap, ◌∙◌}
use Rattle.aa_reach.specs.Routes.{routed, barred}
use Rattle.aa_reach.proofs.Apart.{none_have_ways, edges_alone}
use Rattle.aa_reach.proofs.graph.edges_among.Goals as goal

pub edges_to-requires-clause-ways : goal.edges_to-requires-clause-ways
edges_to-requires-clause-ways c = (c.requires.found.ways, c.requires.found.are)

pub edges_to-requires-clause-others : goal.edges_to-requires-clause-others
edges_to-requires-clause-others c = none_have_ways

pub returns-clause-edges : goal.returns-clause-edges
returns-clause-edges c =
    let b = c.args.beside in
    let a = c.in_ok-answer.answer in
    let is = c.in_ok-answer.ensures in
    edges_alone c.args.unclean b.course.going.as_enforced b.course.going.policies.now b.skipped.now c.args.limit c.args.label c.args.all.now
    (map routed a.routes.items) (map barred a.bars.items) (map routed a.unclean.routes.items) (sym c.are_clean.ensures ∙ c.if-not-are_clean.false)
    c.requires.found c.requires.few is.routes is.apart (ap (map barred) is.bars)
