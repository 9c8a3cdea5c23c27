use Rattle.std.proofs.Common.{rules, ◌≡◌, ◌<◌, [], Option, Some, length, get_or, sym, ap, ◌∙◌, subst, arith}
use Rattle.std.specs.List.{slice_get}
use Rattle.std.proofs.lemmas.Option.{slice_get-get_or}
use Rattle.aa_reachability.specs.declared.trail.Step.{Step}
use Rattle.aa_reachability.specs.Reach.{way_at}
use Rattle.aa_reachability.proofs.Backing.{way_before, way_first}
use Rattle.aa_reach.specs.Routes.{turned, turns_by, IsLast}
use Rattle.aa_reach.proofs.Turning.{turn_back, turns_whole}
use Rattle.aa_reach.proofs.routes.turns_back.Goals as goal

pub loop-at-smaller : goal.loop-at-smaller
loop-at-smaller c =
    let arrivals = c.args.arrivals.now in
    let at = c.loop-at.at in
    let a = get_or arrivals at c.index-arrivals-at.result in
    let here : slice_get arrivals at ≡ Some a = slice_get-get_or arrivals at c.index-arrivals-at.result c.loop-at.invariant.within in
    (way_before arrivals c.requires.ways.0 c.requires.ways.1 at a here c.in-Some.step c.in-Some.is).0

pub loop-at-preserved : goal.loop-at-preserved
loop-at-preserved c =
    let e = c.args.going.as_enforced in
    let ps = c.args.going.policies.now in
    let arrivals = c.args.arrivals.now in
    let lasts = c.args.lasts.now in
    let at = c.loop-at.at in
    let s = c.in-Some.step in
    let a = get_or arrivals at c.index-arrivals-at.result in
    let b = get_or arrivals s.from a in
    let t = c.index-lasts-at.result in
    let here : slice_get arrivals at ≡ Some a = slice_get-get_or arrivals at c.index-arrivals-at.result c.loop-at.invariant.within in
    let before = way_before arrivals c.requires.ways.0 c.requires.ways.1 at a here s c.in-Some.is in
    let within : s.from < length arrivals = omega (arith, before.0, c.loop-at.invariant.within) in
    let there : slice_get arrivals s.from ≡ Some b = slice_get-get_or arrivals s.from a within in
    let last : IsLast ps arrivals (Some s) (get_or lasts at t) =
    subst (λ (o : Option Step). IsLast ps arrivals o (get_or lasts at t)) c.in-Some.is
    (c.requires.lasts.each at a (get_or lasts at t) here (slice_get-get_or lasts at t (omega (arith, c.requires.lasts.many, c.loop-at.invariant.within)))) in
    record {
      within = within;
      rest = λ from ways led.
          turn_back e ps from b.label (way_at ways at) (way_at ways s.from) s.request (way_before arrivals ways led.are at a here s c.in-Some.is).1
          (led.lead s.from b there) (turns_by e ps from (way_at ways c.args.number)) c.loop-at.turns.items c.push.new.self.items c.in_ok-share_of.field-0
          (c.in_ok-share_of.ensures ∙ ap turned c.index-lasts-at.is ∙ last b there) c.in_ok-push.ensures.items (c.loop-at.invariant.rest from ways led);
    }

pub returns : goal.returns
returns c = λ from ways led.
    let e = c.args.going.as_enforced in
    let ps = c.args.going.policies.now in
    let arrivals = c.args.arrivals.now in
    let at = c.loop-at.at in
    let a = get_or arrivals at c.index-arrivals-at.result in
    let here : slice_get arrivals at ≡ Some a = slice_get-get_or arrivals at c.index-arrivals-at.result c.loop-at.invariant.within in
    let none : way_at ways at ≡ [] = way_first arrivals ways led.are at a here c.in_default.not-Some in
    turns_whole e ps from (way_at ways at) none (turns_by e ps from (way_at ways c.args.number)) c.loop-at.turns.items (c.loop-at.invariant.rest from ways led)
