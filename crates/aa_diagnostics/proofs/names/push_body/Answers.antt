use Rattle.std.proofs.Common.{◌+◌, List, [], ◌∷◌, ◌++◌, rules, arith}
use Rattle.std.proofs.lemmas.Result.{err_from_is_err_and}
use Rattle.aa_words.specs.Splits.{WordData}
use Rattle.aa_policy.proofs.Refusals.{refused_by}
use Rattle.aa_rules.specs.Grammar.{Closes}
use Rattle.aa_rules.specs.Reading.{rest_of}
use Rattle.aa_rules.proofs.Repetition.{reaches_next, reaches_end, reaches_none}
use Rattle.aa_policy.specs.Bodies.{IsBodyPart, children_in}
use Rattle.aa_policy.proofs.Profiles.{part_reads}
use Rattle.aa_diagnostics.specs.Named.{child_named}
use Rattle.aa_diagnostics.proofs.Naming.{listed_more}
use Rattle.aa_diagnostics.proofs.names.push_body.Goals as goal

pub returns-in_err-at-clause-refused : goal.returns-in_err-at-clause-refused
returns-in_err-at-clause-refused c = λ h ps rest b.
    let q = err_from_is_err_and c.from_residual.result c.from_residual.ensures.1 in
    let no : (r : List WordData) → Closes (rest_of c.args.words.now c.parts.at) r → ⊥ = search rules in
    reaches_none IsBodyPart Closes _ _ (rest_of c.args.words.now c.parts.at) ps rest
    (c.in_err-at.ensures.refused (refused_by c.from_residual.result _ _ q.1 q.2 h)) no c.parts.invariant.reach b

pub parts-preserved : goal.parts-preserved
parts-preserved c =
    let one = c.in_ok-at.ensures.found in
    record {
      found = c.parts.invariant.found ++ one.0 ∷ [];
      reach = reaches_next IsBodyPart Closes part_reads _ _ (rest_of c.args.words.now c.parts.at) _ _ one.1 c.parts.invariant.reach;
      named = listed_more (child_named c.args.parent.now) children_in _ _ _ c.parts.invariant.found one.0 one.2 c.parts.invariant.named;
      behind = omega (arith, c.in_ok-at.ensures.within.0);
    }

pub returns-clause-found : goal.returns-clause-found
returns-clause-found c =
    let yes : Closes (rest_of c.args.words.now c.parts.at) (rest_of c.args.words.now (c.parts.at + 1)) = search rules in
    (c.parts.invariant.found, reaches_end IsBodyPart Closes _ _ (rest_of c.args.words.now c.parts.at) _ yes c.parts.invariant.reach, c.parts.invariant.named)
