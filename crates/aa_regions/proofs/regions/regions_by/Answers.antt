use Rattle.std.proofs.Common.{length, sym, subst}
use Rattle.aa_regions.specs.Automata.{AreRegionsBy}
use Rattle.aa_regions.specs.Steps.{AreEarlier, AreNumbered, AreRowsIn, IsRising}
use Rattle.aa_regions.specs.Regions.{AreCollected}
use Rattle.aa_regions.proofs.Collecting.{regions_by, text_of, trail_earlier, trail_numbered}
use Rattle.aa_regions.proofs.Reaching.{have_short}
use Rattle.aa_regions.proofs.regions.regions_by.Goals as goal

pub collect_all-requires-clause-earlier : goal.collect_all-requires-clause-earlier
collect_all-requires-clause-earlier c =
    let trail = c.in_ok-trail.trail in
    subst AreEarlier (sym c.as_slice.ensures.value)
    (trail_earlier c.args.automaton.now c.args.head.now c.args.low c.args.max trail.seen.items trail.steps.items c.in_ok-trail.ensures.trail)

pub collect_all-requires-clause-rows : goal.collect_all-requires-clause-rows
collect_all-requires-clause-rows c = subst (AreRowsIn c.args.automaton.now) (sym c.as_slice.ensures.value) c.in_ok-trail.ensures.trail.within

pub collect_all-requires-clause-rising : goal.collect_all-requires-clause-rising
collect_all-requires-clause-rising c = subst IsRising (sym c.as_slice.ensures.value) c.in_ok-trail.ensures.trail.rising

pub collect_all-requires-clause-numbered : goal.collect_all-requires-clause-numbered
collect_all-requires-clause-numbered c =
    let trail = c.in_ok-trail.trail in
    subst (AreNumbered c.args.automaton.now) (sym c.as_slice.ensures.value)
    (trail_numbered c.args.automaton.now c.requires.lists c.args.head.now c.args.low c.args.max (text_of c.args.head.now c.type_inv.head) trail.seen.items trail.steps.items
    c.in_ok-trail.ensures.trail)

pub collect_all-requires-clause-apart : goal.collect_all-requires-clause-apart
collect_all-requires-clause-apart c = c.requires.lists.apart

pub returns-clause-regions : goal.returns-clause-regions
returns-clause-regions c =
    let t = c.args.automaton.now in
    let head = c.args.head.now in
    let trail = c.in_ok-trail.trail in
    let found = c.in_ok-found.found in
    subst (AreRegionsBy t head c.args.low c.args.max) (sym c.into_regions.ensures)
    (regions_by t head c.args.low c.args.max trail.seen.items trail.steps.items c.in_ok-trail.ensures.trail c.in_ok-trail.ensures.all found.taken.items found.regions.items
    (subst (λ l. AreCollected t head l (length l) found.taken.items found.regions.items) c.as_slice.ensures.value c.in_ok-found.ensures))

pub returns-clause-short : goal.returns-clause-short
returns-clause-short c =
    let trail = c.in_ok-trail.trail in
    λ room. have_short c.args.automaton.now c.args.head.now c.args.low c.args.max trail.seen.items trail.steps.items c.in_ok-trail.ensures.trail c.in_ok-trail.ensures.all room
