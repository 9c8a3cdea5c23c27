use Rattle.std.proofs.Common.{[], ◌∷◌, ◌++◌, refl, sym, ◌∙◌}
use Rattle.std.specs.Prelude.{flat_map}
use Rattle.std.proofs.lemmas.Result.{err_from_is_err_and}
use Rattle.aa_policy.proofs.Refusals.{refused_by}
use Rattle.aa_rules.specs.Grammar.{IsEnd}
use Rattle.aa_rules.specs.Reading.{rest_of}
use Rattle.aa_rules.proofs.Places.{nothing_here, something_here}
use Rattle.aa_rules.proofs.Repetition.{reaches_next, reaches_end, reaches_none}
use Rattle.aa_policy.specs.Bodies.{IsItem, if_any, row_from}
use Rattle.aa_policy.proofs.Profiles.{item_reads, no_items}
use Rattle.aa_diagnostics.proofs.Naming.{named_more, row_names}
use Rattle.aa_diagnostics.proofs.names.names_of.Goals as goal

pub returns-in_err-at-clause-refused : goal.returns-in_err-at-clause-refused
returns-in_err-at-clause-refused c = λ h.
    let r = c.from_residual-in_err-at in
    let q = err_from_is_err_and r.result r.ensures.1 in
    let words = c.args.words.now in
    no_items _ c.in_ok-start.ensures.found.0 _ c.in_ok-start.ensures.found.1 (λ is b.
    reaches_none IsItem IsEnd _ _ (rest_of words c.items.at) is []
    (c.in_err-at.ensures.refused (refused_by r.result _ _ q.1 q.2 h))
    (λ after e. something_here words c.items.at c.items-test.true e.0) c.items.invariant.reach b)

pub items-preserved : goal.items-preserved
items-preserved c =
    let one = c.in_ok-at.ensures.found in
    record {
      found = c.items.invariant.found ++ one.0 ∷ [];
      reach = reaches_next IsItem IsEnd item_reads _ _ (rest_of c.args.words.now c.items.at) _ _ one.1 c.items.invariant.reach;
      named = named_more c.items.invariant.found one.0 _ _ one.2 c.items.invariant.named;
      within = c.in_ok-at.ensures.within.1;
    }

pub returns-clause-found : goal.returns-clause-found
returns-clause-found c = (
  c.in_ok-start.field-0-0,
  row_from 0 (flat_map if_any c.items.invariant.found),
  record {
    preamble = c.in_ok-start.ensures.found.0;
    after = rest_of c.args.words.now c.in_ok-start.start;
    items = c.items.invariant.found;
    preamble_stands = c.in_ok-start.ensures.found.1;
    variables_are = c.in_ok-start.ensures.found.2;
    items_stand = reaches_end IsItem IsEnd _ _ (rest_of c.args.words.now c.items.at) [] (nothing_here c.args.words.now c.items.at c.items-test.false, refl) c.items.invariant.reach;
    profiles_are = refl;
  },
  c.items.invariant.named ∙ sym (row_names 0 (flat_map if_any c.items.invariant.found)),
)
