use Rattle.std.proofs.Common.{◌≡◌, List, [], ◌++◌, true, false, map, option_map, ap, ◌∙◌, subst}
use Rattle.std.specs.Prelude.{flat_map, if◌then◌else◌}
use Rattle.aa_model.specs.declared.request.Request.{Request}
use Rattle.aa_reachability.specs.declared.trail.Arrival.{Arrival}
use Rattle.aa_reachability.specs.declared.reached.Untold.{Untold}
use Rattle.aa_reach.specs.Doubts.{doubted, doubted_but}
use Rattle.aa_reach.specs.Routes.{routed, barred, LeadThere, all_routes, barred_but, IsSearched}
use Rattle.aa_reach.proofs.Telling.{found_there}
use Rattle.aa_reach.proofs.Apart.{told_by}
use Rattle.aa_reach.proofs.answering.answer_apart.Goals as goal

pub returns : goal.returns
returns c =
    let b = c.args.beside in
    let e = b.course.going.as_enforced in
    let ps = b.course.going.policies.now in
    let sk = b.skipped.now in
    let counts = c.args.unclean in
    let from = c.args.from in
    let targets = option_map (λ ts. ts.now) c.args.targets in
    let no = c.none_reached-none.ensures in
    let found = c.in_ok-clean.clean in
    let told = c.in_ok-told.told in
    let others = c.in_ok-others.others in
    let a = c.in_ok-answer.answer in
    let is = c.in_ok-answer.ensures in
    let clean : IsSearched true e ps sk c.args.limit from = record {
      arrivals = found.arrivals.items;
      untold = found.untold.items;
      are = c.in_ok-clean.ensures.found;
      are_untold = c.in_ok-clean.ensures.untold;
    } in
    let all : IsSearched false e ps sk c.args.limit from = record {
      arrivals = c.args.all.now.arrivals.items;
      untold = c.args.all.now.untold.items;
      are = c.requires.found;
      are_untold = c.requires.untold;
    } in
    let first : (ways : List (List Request)) → LeadThere e ps from found.arrivals.items ways
    → map routed told.routes.items ≡ all_routes e ps from targets [] found.arrivals.items ways =
    subst
    (λ (xs : List Arrival). (ways : List (List Request)) → LeadThere e ps from found.arrivals.items ways
    → map routed told.routes.items ≡ all_routes e ps from targets xs found.arrivals.items ways)
    no.arrivals c.in_ok-told.ensures.routes in
    record {
      from_is = is.from;
      doubts = map doubted told.doubts.items ++ (if counts then map doubted others.doubts.items else []);
      told = told_by counts e ps sk c.args.limit from targets clean all (map routed told.routes.items) (map routed others.routes.items)
          (map barred told.bars.items) (map barred others.bars.items) (map doubted told.doubts.items) (map doubted others.doubts.items)
          (map routed a.routes.items) (map barred a.bars.items) (map routed a.unclean.routes.items) (map barred a.unclean.bars.items)
          (map doubted a.unclean.doubts.items)
          first (c.in_ok-others.ensures.routes all.are.ways (found_there false e ps sk from all.arrivals all.untold all.are))
          (c.in_ok-told.ensures.bars ∙ ap (λ (us : List Untold). flat_map (barred_but ps us) found.untold.items) no.untold)
          c.in_ok-others.ensures.bars
          (c.in_ok-told.ensures.doubts ∙ ap (λ (xs : List Arrival). flat_map (doubted_but ps sk xs) found.arrivals.items) no.arrivals)
          c.in_ok-others.ensures.doubts is.routes is.bars is.apart is.apart_bars is.apart_doubts;
      doubts_are = is.doubts;
    }
