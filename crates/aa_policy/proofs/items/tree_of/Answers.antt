use Rattle.std.proofs.Common.{[], ◌∷◌, ◌++◌, refl, sym, ap}
use Rattle.std.specs.Prelude.{option_map}
use Rattle.std.proofs.lemmas.List.{length-map}
use Rattle.std.proofs.lemmas.Result.{err_from_is_err_and}
use Rattle.aa_policy.specs.Bodies.{IsItem, family_data, profile_data, tree_data}
use Rattle.aa_rules.specs.Grammar.{IsEnd}
use Rattle.aa_rules.specs.Reading.{rest_of}
use Rattle.aa_rules.proofs.Places.{nothing_here, something_here}
use Rattle.aa_policy.proofs.Profiles.{item_reads, no_preamble, no_items, row_next}
use Rattle.aa_policy.proofs.Refusals.{refused_by, refused_with}
use Rattle.aa_rules.proofs.Repetition.{reaches_start, reaches_next, reaches_end, reaches_none}
use Rattle.aa_policy.proofs.items.tree_of.Goals as goal

pub returns-in_err-vars-clause-refused : goal.returns-in_err-vars-clause-refused
returns-in_err-vars-clause-refused c = λ h.
    let q = err_from_is_err_and c.from_residual.result c.from_residual.ensures.1 in
    no_preamble _ (c.in_err-vars.ensures.refused (refused_by c.from_residual.result _ _ q.1 q.2 h))

pub returns-in_err-item-clause-refused : goal.returns-in_err-item-clause-refused
returns-in_err-item-clause-refused c = λ h.
    let r = c.from_residual-in_err-item in
    let q = err_from_is_err_and r.result r.ensures.1 in
    let words = c.args.words.now in
    no_items _ c.in_ok-vars.ensures.found.0 _ c.in_ok-vars.ensures.found.1 (λ is b.
    reaches_none IsItem IsEnd _ _ (rest_of words c.items.at) is []
    (c.in_err-item.ensures.refused (refused_by r.result _ _ q.1 q.2 h))
    (λ after e. something_here words c.items.at c.items-test.true e.0) c.items.invariant.reach b)

pub items-preserved : goal.items-preserved
items-preserved c = record {
  found = c.items.invariant.found ++ option_map family_data c.in_ok-item.item ∷ [];
  reach = reaches_next IsItem IsEnd item_reads _ _ (rest_of c.args.words.now c.items.at) _ _ c.in_ok-item.ensures.found c.items.invariant.reach;
  profiles = row_next c.items.invariant.found (option_map family_data c.in_ok-item.item) _ _ _ (sym (length-map c.items.profiles.items profile_data)) c.in_ok-push_item.ensures c.items.invariant.profiles;
  within = c.in_ok-item.ensures.within.1;
}

pub returns-clause-found : goal.returns-clause-found
returns-clause-found c = record {
  preamble = c.in_ok-vars.ensures.found.0;
  after = rest_of c.args.words.now c.in_ok-vars.start;
  items = c.items.invariant.found;
  preamble_stands = c.in_ok-vars.ensures.found.1;
  variables_are = c.in_ok-vars.ensures.found.2;
  items_stand = reaches_end IsItem IsEnd _ _ (rest_of c.args.words.now c.items.at) [] (nothing_here c.args.words.now c.items.at c.items-test.false, refl) c.items.invariant.reach;
  profiles_are = c.items.invariant.profiles;
}

pub items-init : goal.items-init
items-init c = record {
  found = [];
  reach = reaches_start IsItem IsEnd (rest_of c.args.words.now c.in_ok-vars.start);
  profiles = ap tree_data c.new-profiles.ensures.items;
  within = c.in_ok-vars.ensures.within.1;
}

pub returns-in_err-vars-clause-misnamed : goal.returns-in_err-vars-clause-misnamed
returns-in_err-vars-clause-misnamed c = λ adds spot m.
    let q = err_from_is_err_and c.from_residual.result c.from_residual.ensures.1 in
    refused_with c.from_residual.result _ _ _ q.1 q.2 (c.in_err-vars.ensures.misnamed adds spot m)

pub returns-in_err-item-clause-misnamed : goal.returns-in_err-item-clause-misnamed
returns-in_err-item-clause-misnamed c = λ adds spot m. absurd (c.in_ok-vars.ensures.misnamed adds spot m)
