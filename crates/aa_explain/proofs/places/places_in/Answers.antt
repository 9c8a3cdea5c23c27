use Rattle.std.proofs.Common.{[], ◌∷◌, ◌++◌, refl, ap}
use Rattle.std.specs.Prelude.{map, flat_map}
use Rattle.std.proofs.lemmas.Result.{err_from_is_err_and}
use Rattle.aa_policy.proofs.Refusals.{refused_by}
use Rattle.aa_policy.specs.Bodies.{IsItem, if_any}
use Rattle.aa_policy.proofs.Profiles.{item_reads, no_items}
use Rattle.aa_rules.proofs.Repetition.{reaches_start, reaches_next, reaches_none}
use Rattle.aa_explain.proofs.Plain.{item_plain}
use Rattle.aa_rules.specs.Grammar.{IsEnd}
use Rattle.aa_rules.specs.Reading.{rest_of}
use Rattle.aa_rules.proofs.Places.{nothing_here, something_here}
use Rattle.aa_explain.specs.Places.{IsPlacedItem, family_row, places_of, places_data}
use Rattle.aa_explain.proofs.Placing.{goes_start, goes_next, goes_end, listed_more, rows_of_items, some_is}
use Rattle.aa_explain.proofs.places.places_in.Goals as goal

pub items-init : goal.items-init
items-init c = record {
  found = [];
  read = [];
  reach = reaches_start IsItem IsEnd (rest_of c.args.words.now c.in_ok-start.start);
  goes = goes_start IsPlacedItem IsEnd (rest_of c.args.words.now c.in_ok-start.start);
  placed = ap (map places_data) c.new-found.ensures.items;
  within = c.in_ok-start.ensures.within.1;
}

pub items-preserved : goal.items-preserved
items-preserved c =
    let next = c.in_ok-at.ensures.found in
    let item = item_plain _ next.0 _ next.1 in record {
      found = c.items.invariant.found ++ next.0 ∷ [];
      read = c.items.invariant.read ++ item.0 ∷ [];
      reach = reaches_next IsItem IsEnd item_reads _ _ (rest_of c.args.words.now c.items.at) _ _ item.1 c.items.invariant.reach;
      goes = goes_next IsPlacedItem IsEnd _ _ (rest_of c.args.words.now c.items.at) _ _ next.1 c.items.invariant.goes;
      placed = listed_more places_of (λ i. flat_map family_row (if_any i)) [] _ _ c.items.invariant.found next.0 next.2 c.items.invariant.placed;
      within = c.in_ok-at.ensures.within.1;
    }

pub returns-in_err-at-clause-refused : goal.returns-in_err-at-clause-refused
returns-in_err-at-clause-refused c = λ h.
    let r = c.from_residual-in_err-at in
    let q = err_from_is_err_and r.result r.ensures.1 in
    let words = c.args.words.now in
    no_items _ c.in_ok-start.ensures.found.0 _ c.in_ok-start.ensures.found.1 (λ is b.
    reaches_none IsItem IsEnd _ _ (rest_of words c.items.at) is []
    (c.in_err-at.ensures.refused (refused_by r.result _ _ q.1 q.2 h))
    (λ after e. something_here words c.items.at c.items-test.true e.0) c.items.invariant.reach b)

pub returns-clause-placed : goal.returns-clause-placed
returns-clause-placed c =
    let rows = rows_of_items c.items.invariant.found in (
      _,
      record {
        preamble = c.in_ok-start.ensures.found.0;
        after = rest_of c.args.words.now c.in_ok-start.start;
        items = c.items.invariant.found;
        preamble_stands = c.in_ok-start.ensures.found.1;
        variables_are = some_is _ _ c.in_ok-start.ensures.found.2;
        items_stand = goes_end IsPlacedItem IsEnd _ _ (rest_of c.args.words.now c.items.at) [] (nothing_here c.args.words.now c.items.at c.items-test.false, refl) c.items.invariant.goes;
        profiles_are = rows;
      },
      c.items.invariant.placed,
    )
