use Rattle.std.proofs.Common.{◌+◌, List, [], ◌∷◌, ◌++◌, sym, rules, arith}
use Rattle.std.proofs.lemmas.List.{append-nil}
use Rattle.std.proofs.lemmas.Result.{err_from_is_err_and}
use Rattle.aa_words.specs.Splits.{WordData}
use Rattle.aa_policy.proofs.Refusals.{refused_by}
use Rattle.aa_policy.specs.Bodies.{IsBodyPart}
use Rattle.aa_policy.proofs.Profiles.{part_reads}
use Rattle.aa_rules.proofs.Repetition.{reaches_start, reaches_next, reaches_none}
use Rattle.aa_explain.proofs.Plain.{part_plain}
use Rattle.aa_rules.specs.Grammar.{Closes}
use Rattle.aa_rules.specs.Reading.{rest_of}
use Rattle.aa_explain.specs.Places.{IsPlacedPart, rules_in, children_in, places_of}
use Rattle.aa_explain.proofs.Placing.{goes_start, goes_next, goes_end, with_none, placed_more, listed_more}
use Rattle.aa_explain.proofs.places.push_body.Goals as goal

pub parts-init : goal.parts-init
parts-init c = record {
  found = [];
  read = [];
  reach = reaches_start IsBodyPart Closes (rest_of c.args.words.now c.args.start);
  goes = goes_start IsPlacedPart Closes (rest_of c.args.words.now c.args.start);
  placed = with_none _;
  listed = sym (append-nil _);
  behind = omega arith;
}

pub parts-preserved : goal.parts-preserved
parts-preserved c =
    let next = c.in_ok-at.ensures.found in
    let part = part_plain _ next.0 _ next.1 in record {
      found = c.parts.invariant.found ++ next.0 ∷ [];
      read = c.parts.invariant.read ++ part.0 ∷ [];
      reach = reaches_next IsBodyPart Closes part_reads _ _ (rest_of c.args.words.now c.parts.at) _ _ part.1 c.parts.invariant.reach;
      goes = goes_next IsPlacedPart Closes _ _ (rest_of c.args.words.now c.parts.at) _ _ next.1 c.parts.invariant.goes;
      placed = placed_more rules_in _ _ _ c.parts.invariant.found next.0 next.2 c.parts.invariant.placed;
      listed = listed_more places_of children_in _ _ _ c.parts.invariant.found next.0 next.3 c.parts.invariant.listed;
      behind = omega (arith, c.in_ok-at.ensures.within.0);
    }

pub returns-in_err-at-clause-refused : goal.returns-in_err-at-clause-refused
returns-in_err-at-clause-refused c = λ h ps rest b.
    let q = err_from_is_err_and c.from_residual.result c.from_residual.ensures.1 in
    let no : (r : List WordData) → Closes (rest_of c.args.words.now c.parts.at) r → ⊥ = search rules in
    reaches_none IsBodyPart Closes _ _ (rest_of c.args.words.now c.parts.at) ps rest
    (c.in_err-at.ensures.refused (refused_by c.from_residual.result _ _ q.1 q.2 h)) no c.parts.invariant.reach b

pub returns-clause-found : goal.returns-clause-found
returns-clause-found c =
    let yes : Closes (rest_of c.args.words.now c.parts.at) (rest_of c.args.words.now (c.parts.at + 1)) = search rules in
    (c.parts.invariant.found, goes_end IsPlacedPart Closes _ _ (rest_of c.args.words.now c.parts.at) _ yes c.parts.invariant.goes, c.parts.invariant.placed, c.parts.invariant.listed)
