use Rattle.std.proofs.Common.{List, map, option_map, ap, ◌∙◌}
use Rattle.std.specs.Prelude.{flat_map}
use Rattle.aa_reachability.specs.declared.trail.Arrival.{Arrival}
use Rattle.aa_reachability.specs.declared.reached.Untold.{Untold}
use Rattle.aa_reach.specs.Doubts.{doubted_but}
use Rattle.aa_reach.specs.Routes.{routed, barred_but}
use Rattle.aa_reach.proofs.Apart.{routes_of}
use Rattle.aa_reach.proofs.parts.told_of.Goals as goal

pub returns-clause-routes : goal.returns-clause-routes
returns-clause-routes c =
    let going = c.args.beside.course.going in
    routes_of going.as_enforced going.policies.now c.args.from (option_map (λ ts. ts.now) c.args.targets) c.as_slice-others.result.now
    c.args.but.now.arrivals.items c.as_slice-arrivals.result.now c.args.reached.now.arrivals.items (map routed c.in_ok-routes.routes.items)
    c.as_slice-others.ensures.value c.as_slice-arrivals.ensures.value c.in_ok-routes.ensures

pub returns-clause-bars : goal.returns-clause-bars
returns-clause-bars c =
    let ps = c.args.beside.course.going.policies.now in
    c.in_ok-bars.ensures
    ∙ ap (λ (us : List Untold). flat_map (barred_but ps us) c.as_slice.result.now) c.as_slice-known.ensures.value
    ∙ ap (λ (us : List Untold). flat_map (barred_but ps c.args.but.now.untold.items) us) c.as_slice.ensures.value

pub returns-clause-doubts : goal.returns-clause-doubts
returns-clause-doubts c =
    let ps = c.args.beside.course.going.policies.now in
    let sk = c.args.beside.skipped.now in
    c.in_ok-doubts.ensures
    ∙ ap (λ (as' : List Arrival). flat_map (doubted_but ps sk as') c.as_slice-arrivals.result.now) c.as_slice-others.ensures.value
    ∙ ap (λ (as' : List Arrival). flat_map (doubted_but ps sk c.args.but.now.arrivals.items) as') c.as_slice-arrivals.ensures.value
