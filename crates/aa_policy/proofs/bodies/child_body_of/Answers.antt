use Rattle.std.proofs.Common.{◌+◌, List, [], ◌∷◌, ◌++◌, rules, arith}
use Rattle.std.specs.Prelude.{option_map}
use Rattle.aa_words.specs.Splits.{WordData}
use Rattle.aa_policy.specs.Bodies.{IsStatement, if_any}
use Rattle.aa_rules.specs.Grammar.{Closes}
use Rattle.aa_rules.specs.Reading.{rest_of, rule_data}
use Rattle.aa_policy.proofs.Profiles.{statement_reads, more_given}
use Rattle.aa_rules.proofs.Repetition.{reaches_next, reaches_end, reaches_none}
use Rattle.aa_policy.proofs.bodies.child_body_of.Goals as goal

pub returns-in_err-statement-clause-refused : goal.returns-in_err-statement-clause-refused
returns-in_err-statement-clause-refused c = λ h ss rest b.
    let no : (r : List WordData) → Closes (rest_of c.args.words.now c.statements.at) r → ⊥ = search rules in
    reaches_none IsStatement Closes _ _ (rest_of c.args.words.now c.statements.at) ss rest c.in_err-statement.ensures.refused no c.statements.invariant.reach b

pub statements-preserved : goal.statements-preserved
statements-preserved c = record {
  found = c.statements.invariant.found ++ option_map rule_data c.in_ok-statement.statement ∷ [];
  reach = reaches_next IsStatement Closes statement_reads _ _ (rest_of c.args.words.now c.statements.at) _ _ c.in_ok-statement.ensures.found c.statements.invariant.reach;
  rules = more_given if_any c.statements.invariant.found (option_map rule_data c.in_ok-statement.statement) _ _ c.in_ok-push_statement.ensures c.statements.invariant.rules;
  behind = omega (arith, c.in_ok-statement.ensures.within.0);
}

pub returns-clause-found : goal.returns-clause-found
returns-clause-found c =
    let yes : Closes (rest_of c.args.words.now c.statements.at) (rest_of c.args.words.now (c.statements.at + 1)) = search rules in
    (c.statements.invariant.found, reaches_end IsStatement Closes _ _ (rest_of c.args.words.now c.statements.at) _ yes c.statements.invariant.reach, c.statements.invariant.rules)
