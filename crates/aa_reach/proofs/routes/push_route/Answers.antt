use Rattle.std.proofs.Common.{length, map, option_map, refl, sym, ◌∙◌}
use Rattle.std.specs.List.{slice_get}
use Rattle.std.proofs.lemmas.Option.{slice_get_read, slice_get_past}
use Rattle.aa_reachability.specs.Reach.{way_at}
use Rattle.aa_reach.specs.Routes.{routed}
use Rattle.aa_reach.proofs.Telling.{route_found, route_left, route_none}
use Rattle.aa_reach.proofs.routes.push_route.Goals as goal

pub returns-in_default : goal.returns-in_default
returns-in_default c = λ ways are.
    let going = c.args.going in
    let arrivals = c.args.arrivals.now in
    let n = c.args.number in
    route_none going.as_enforced going.policies.now c.args.from (option_map (λ ts. ts.now) c.args.targets) c.args.but.now (slice_get arrivals n) (way_at ways n)
    (map routed c.args.routes.now.items) (slice_get_past arrivals n c.in_default.ensures.lookup.3)

pub returns-then-not-is_wanted : goal.returns-then-not-is_wanted
returns-then-not-is_wanted c = λ ways are.
    let going = c.args.going in
    let arrivals = c.args.arrivals.now in
    let n = c.args.number in
    let a = c.in-Some.arrival.now in
    let there = c.in-Some.ensures.lookup in
    route_left going.as_enforced going.policies.now c.args.from (option_map (λ ts. ts.now) c.args.targets) c.args.but.now (slice_get arrivals n) a (way_at ways n)
    (map routed c.args.routes.now.items) (slice_get_read arrivals (length arrivals) n a refl there.3.0 there.1)
    (sym c.is_wanted.ensures ∙ c.if-not-is_wanted.true)

pub returns : goal.returns
returns c = λ ways are.
    let going = c.args.going in
    let arrivals = c.args.arrivals.now in
    let n = c.args.number in
    let a = c.in-Some.arrival.now in
    let there = c.in-Some.ensures.lookup in
    route_found going.as_enforced going.policies.now c.args.from (option_map (λ ts. ts.now) c.args.targets) c.args.but.now (slice_get arrivals n) a (way_at ways n)
    c.args.routes.now.items c.push.new.self.items (record { to = c.in_ok-to.to; turns = c.in_ok-turns.turns })
    (slice_get_read arrivals (length arrivals) n a refl there.3.0 there.1) c.in_ok-push.ensures.items (sym c.is_wanted.ensures ∙ c.if-not-is_wanted.false)
    c.in_ok-to.ensures
    (c.in_ok-turns.ensures c.args.from ways are)
