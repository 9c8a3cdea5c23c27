use Rattle.std.proofs.Common.{List, false, sym, subst}
use Rattle.aa_reachability.specs.declared.trail.Arrival.{Arrival}
use Rattle.aa_reach.specs.Routes.{AreFoundNear, IsNearBy}
use Rattle.aa_reach.proofs.Apart.{why_clean, no_edges_told}
use Rattle.aa_reach.proofs.graph.edges_by.Goals as goal

pub edges_among-requires-clause-found : goal.edges_among-requires-clause-found
edges_among-requires-clause-found c =
    let b = c.args.beside in
    let e = b.course.going.as_enforced in
    let ps = b.course.going.policies.now in
    let near = subst (IsNearBy false e ps b.skipped.now c.args.limit c.args.label) c.in-Told.is c.in_ok-all.ensures in
    subst (λ (xs : List Arrival). AreFoundNear false e ps b.skipped.now c.args.label xs) (sym c.as_slice-found.ensures.value) near.0

pub edges_among-requires-clause-few : goal.edges_among-requires-clause-few
edges_among-requires-clause-few c =
    let b = c.args.beside in
    let going = b.course.going in
    (subst (IsNearBy false going.as_enforced going.policies.now b.skipped.now c.args.limit c.args.label) c.in-Told.is c.in_ok-all.ensures).1

pub returns-in-NotTold-clause-edges : goal.returns-in-NotTold-clause-edges
returns-in-NotTold-clause-edges c =
    let b = c.args.beside in
    let e = b.course.going.as_enforced in
    let ps = b.course.going.policies.now in
    let near = subst (IsNearBy false e ps b.skipped.now c.args.limit c.args.label) c.in-NotTold.is c.in_ok-all.ensures in
    no_edges_told c.args.unclean e ps b.skipped.now c.args.limit c.args.label c.in-NotTold.why c.no_edges.result
    (why_clean ps c.args.limit c.args.label c.in-NotTold.why near) c.no_edges.ensures.none c.no_edges.ensures.apart c.no_edges.ensures.bars
