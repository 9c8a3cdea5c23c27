use Rattle.std.proofs.Common.{◌≡◌, ◌++◌, ℕ, List, map, take, option_map, sym, ap, ◌∙◌, subst, add-one}
use Rattle.std.specs.List.{slice_get}
use Rattle.std.proofs.lemmas.List.{take_all}
use Rattle.aa_reachability.specs.declared.trail.Arrival.{Arrival}
use Rattle.aa_reachability.specs.Reach.{way_at}
use Rattle.aa_reach.specs.Routes.{Routed, routed, route_if, all_routes}
use Rattle.aa_reach.proofs.Apart.{route_more}
use Rattle.aa_reach.proofs.routes.routes_to.Goals as goal

pub loop-number-preserved : goal.loop-number-preserved
loop-number-preserved c = λ ways are.
    let e = c.args.going.as_enforced in
    let ps = c.args.going.policies.now in
    let targets = option_map (λ ts. ts.now) c.args.targets in
    let but = c.args.but.now in
    let arrivals = c.args.arrivals.now in
    let n = c.loop-number.number in
    subst (λ (k : ℕ). map routed c.push_route.new.routes.items ≡ all_routes e ps c.args.from targets but (take k arrivals) ways) (sym (add-one n))
    (c.in_ok-push_route.ensures ways are
    ∙ ap (λ (rs : List Routed). rs ++ route_if e ps c.args.from targets but (slice_get arrivals n) (way_at ways n)) (c.loop-number.invariant ways are)
    ∙ sym (route_more e ps c.args.from targets but arrivals ways n are.are.many))

pub returns : goal.returns
returns c = λ ways are.
    let going = c.args.going in
    let targets = option_map (λ ts. ts.now) c.args.targets in
    let arrivals = c.args.arrivals.now in
    c.loop-number.invariant ways are
    ∙ ap (λ (xs : List Arrival). all_routes going.as_enforced going.policies.now c.args.from targets c.args.but.now xs ways)
    (take_all c.loop-number.number arrivals c.loop-number-test.false)
