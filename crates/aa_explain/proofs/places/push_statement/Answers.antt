use Rattle.std.proofs.Common.{◌+◌, Some, None, rules}
use Rattle.std.specs.Prelude.{codes}
use Rattle.aa_rules.specs.Grammar.{Keyword, LacksKeyword}
use Rattle.aa_rules.specs.Reading.{rest_of, rule_data}
use Rattle.aa_policy.proofs.Profiles.{no_statement, no_abi_statement}
use Rattle.aa_explain.proofs.Placing.{with_none}
use Rattle.aa_explain.proofs.places.push_statement.Goals as goal

pub returns-in_err-next-clause-refused : goal.returns-in_err-next-clause-refused
returns-in_err-next-clause-refused c = λ h.
    let stands : Keyword (codes "abi") (rest_of c.args.words.now c.args.at) (rest_of c.args.words.now (c.args.at + 1)) = search rules in
    no_abi_statement _ _ stands c.in_err-next.ensures.refused

pub returns-in_err-rule-clause-refused : goal.returns-in_err-rule-clause-refused
returns-in_err-rule-clause-refused c = λ h.
    let none : LacksKeyword (codes "abi") (rest_of c.args.words.now c.args.at) = search rules in
    no_statement _ c.in_err-rule.ensures.refused none

pub returns-then-keyword_stands-clause-found : goal.returns-then-keyword_stands-clause-found
returns-then-keyword_stands-clause-found c = (None, c.in_ok-next.ensures.found, with_none _)

pub returns-clause-found : goal.returns-clause-found
returns-clause-found c =
    let extent = c.extent_of in
    (Some (record { at = extent.result.at; end = extent.result.end; rule = rule_data c.in_ok-rule.rule }), (extent.ensures.begins, extent.ensures.ends, c.in_ok-rule.ensures.found), c.in_ok-push_place.ensures)
