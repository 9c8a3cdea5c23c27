use Rattle.std.proofs.Common.{List, true, map, sym, ap, subst}
use Rattle.aa_reachability.specs.declared.trail.Arrival.{Arrival}
use Rattle.aa_reachability.specs.Reach.{HaveWays}
use Rattle.aa_reach.specs.Routes.{routed, barred, IsNearBy}
use Rattle.aa_reach.proofs.Apart.{ways_if, edges_both, no_edges_told}
use Rattle.aa_reach.proofs.graph.edges_apart.Goals as goal

pub edges_to-requires-clause-ways : goal.edges_to-requires-clause-ways
edges_to-requires-clause-ways c =
    let b = c.args.beside in
    let going = b.course.going in
    let near = subst (IsNearBy true going.as_enforced going.policies.now b.skipped.now c.args.limit c.args.label) c.in-Told.is c.in_ok-clean.ensures in
    subst HaveWays (sym c.as_slice.ensures.value) (near.0.ways, near.0.are)

pub edges_to-requires-clause-others : goal.edges_to-requires-clause-others
edges_to-requires-clause-others c =
    ways_if c.args.unclean c.args.all.now c.counted-others.result.now c.counted-others.ensures (c.requires.found.ways, c.requires.found.are)

pub returns-in_ok-answer-in-Told-clause-edges : goal.returns-in_ok-answer-in-Told-clause-edges
returns-in_ok-answer-in-Told-clause-edges c =
    let b = c.args.beside in
    let e = b.course.going.as_enforced in
    let ps = b.course.going.policies.now in
    let a = c.in_ok-answer-in-Told.answer in
    let is = c.in_ok-answer-in-Told.ensures in
    let near = subst (IsNearBy true e ps b.skipped.now c.args.limit c.args.label) c.in-Told.is c.in_ok-clean.ensures in
    edges_both c.args.unclean e ps b.skipped.now c.args.limit c.args.label c.in-Told.clean.items c.args.all.now c.as_slice.result.now
    c.counted-others.result.now (map routed a.routes.items) (map barred a.bars.items) (map routed a.unclean.routes.items) near.0 c.requires.found near.1
    c.as_slice.ensures.value c.counted-others.ensures is.routes is.apart (ap (map barred) is.bars)

pub returns-in-NotTold-clause-edges : goal.returns-in-NotTold-clause-edges
returns-in-NotTold-clause-edges c =
    let b = c.args.beside in
    let e = b.course.going.as_enforced in
    let ps = b.course.going.policies.now in
    no_edges_told c.args.unclean e ps b.skipped.now c.args.limit c.args.label c.in-NotTold.why c.no_edges.result
    (subst (IsNearBy true e ps b.skipped.now c.args.limit c.args.label) c.in-NotTold.is c.in_ok-clean.ensures) c.no_edges.ensures.none
    c.no_edges.ensures.apart c.no_edges.ensures.bars
