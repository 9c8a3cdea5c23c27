use Rattle.std.proofs.Common.{rules, ◌+◌, Some}
use Rattle.std.specs.Prelude.{codes}
use Rattle.std.proofs.lemmas.Result.{err_from_is_err_and}
use Rattle.aa_rules.specs.Grammar.{Keyword, LacksKeyword}
use Rattle.aa_rules.specs.Reading.{rest_of, rule_data}
use Rattle.aa_policy.proofs.Profiles.{no_statement, no_abi_statement}
use Rattle.aa_diagnostics.proofs.names.statement_end.Goals as goal

pub returns-in_err-next-clause-refused : goal.returns-in_err-next-clause-refused
returns-in_err-next-clause-refused c =
    let q = err_from_is_err_and c.from_residual.result c.from_residual.ensures.1 in
    let stands : Keyword (codes "abi") (rest_of c.args.words.now c.args.at) (rest_of c.args.words.now (c.args.at + 1)) = search rules in
    rw (q.1) (no_abi_statement _ _ stands c.in_err-next.ensures.refused)

pub returns-in_err-next-2-clause-refused : goal.returns-in_err-next-2-clause-refused
returns-in_err-next-2-clause-refused c =
    let q = err_from_is_err_and c.from_residual-in_err-next-2.result c.from_residual-in_err-next-2.ensures.1 in
    let none : LacksKeyword (codes "abi") (rest_of c.args.words.now c.args.at) = search rules in
    rw (q.1) (no_statement _ c.in_err-next-2.ensures.refused none)

pub returns-clause-found : goal.returns-clause-found
returns-clause-found c = (Some (rule_data c.in_ok-next-2.field-0-0), c.in_ok-next-2.ensures.found)
