use Rattle.std.proofs.Common.{◌+◌, List, [], ◌∷◌, ◌++◌, rules, arith}
use Rattle.std.proofs.lemmas.Result.{err_from_is_err_and}
use Rattle.aa_words.specs.Splits.{WordData}
use Rattle.aa_policy.specs.Bodies.{IsBodyPart, rules_in, children_in, part_data}
use Rattle.aa_rules.specs.Grammar.{Closes}
use Rattle.aa_rules.specs.Reading.{rest_of}
use Rattle.aa_policy.proofs.Profiles.{part_reads, more_given}
use Rattle.aa_policy.proofs.Refusals.{refused_by}
use Rattle.aa_rules.proofs.Repetition.{reaches_next, reaches_end, reaches_none}
use Rattle.aa_policy.proofs.bodies.body_of.Goals as goal

pub returns-in_err-part-clause-refused : goal.returns-in_err-part-clause-refused
returns-in_err-part-clause-refused c = λ h es rest b.
    let q = err_from_is_err_and c.from_residual.result c.from_residual.ensures.1 in
    let no : (r : List WordData) → Closes (rest_of c.args.words.now c.parts.at) r → ⊥ = search rules in
    reaches_none IsBodyPart Closes _ _ (rest_of c.args.words.now c.parts.at) es rest
    (c.in_err-part.ensures.refused (refused_by c.from_residual.result _ _ q.1 q.2 h)) no c.parts.invariant.reach b

pub parts-preserved : goal.parts-preserved
parts-preserved c = record {
  found = c.parts.invariant.found ++ part_data c.in_ok-part.part ∷ [];
  reach = reaches_next IsBodyPart Closes part_reads _ _ (rest_of c.args.words.now c.parts.at) _ _ c.in_ok-part.ensures.found c.parts.invariant.reach;
  rules = more_given rules_in c.parts.invariant.found (part_data c.in_ok-part.part) _ _ c.in_ok-push_part.ensures.rules c.parts.invariant.rules;
  children = more_given children_in c.parts.invariant.found (part_data c.in_ok-part.part) _ _ c.in_ok-push_part.ensures.children c.parts.invariant.children;
  behind = omega (arith, c.in_ok-part.ensures.within.0);
}

pub returns-clause-found : goal.returns-clause-found
returns-clause-found c =
    let yes : Closes (rest_of c.args.words.now c.parts.at) (rest_of c.args.words.now (c.parts.at + 1)) = search rules in
    (c.parts.invariant.found, reaches_end IsBodyPart Closes _ _ (rest_of c.args.words.now c.parts.at) _ yes c.parts.invariant.reach, c.parts.invariant.rules, c.parts.invariant.children)
