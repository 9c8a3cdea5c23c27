use Rattle.std.proofs.Common.{◌≡◌, Some, get_or, arith}
use Rattle.std.specs.List.{slice_get}
use Rattle.std.proofs.lemmas.Option.{slice_get-get_or}
use Rattle.aa_reachability.proofs.Backing.{way_before, way_back, way_whole}
use Rattle.aa_reachability.proofs.ways.way_back.Goals as goal

pub loop-at-smaller : goal.loop-at-smaller
loop-at-smaller c =
    let arrivals = c.args.arrivals.now in
    let at = c.loop-at.at in
    let a = get_or arrivals at c.index-arrivals-at.result in
    let here : slice_get arrivals at ≡ Some a = slice_get-get_or arrivals at c.index-arrivals-at.result c.loop-at.invariant.within in
    (way_before arrivals c.requires.ways.0 c.requires.ways.1 at a here c.in-Some.step c.in-Some.is).0

pub loop-at-preserved : goal.loop-at-preserved
loop-at-preserved c =
    let arrivals = c.args.arrivals.now in
    let at = c.loop-at.at in
    let a = get_or arrivals at c.index-arrivals-at.result in
    let here : slice_get arrivals at ≡ Some a = slice_get-get_or arrivals at c.index-arrivals-at.result c.loop-at.invariant.within in
    let before = way_before arrivals c.requires.ways.0 c.requires.ways.1 at a here c.in-Some.step c.in-Some.is in
    record {
      within = omega (arith, before.0, c.loop-at.invariant.within);
      rest = λ ways are.
          way_back arrivals ways are at a here c.in-Some.step c.in-Some.is _ c.loop-at.way.items c.push.new.self.items c.in_ok-try_clone.field-0
          c.in_ok-try_clone.ensures.same c.in_ok-push.ensures.items (c.loop-at.invariant.rest ways are);
    }

pub returns : goal.returns
returns c = λ ways are.
    let arrivals = c.args.arrivals.now in
    let at = c.loop-at.at in
    let a = get_or arrivals at c.index-arrivals-at.result in
    let here : slice_get arrivals at ≡ Some a = slice_get-get_or arrivals at c.index-arrivals-at.result c.loop-at.invariant.within in
    way_whole arrivals ways are at a here c.in_default.not-Some _ c.loop-at.way.items (c.loop-at.invariant.rest ways are)
