use Rattle.std.proofs.Common.{◌+◌, List, [], ◌∷◌, ◌++◌, rules, arith}
use Rattle.std.proofs.lemmas.Result.{err_from_is_err_and}
use Rattle.aa_words.specs.Splits.{WordData}
use Rattle.aa_policy.specs.Bodies.{IsStatement}
use Rattle.aa_rules.specs.Grammar.{Closes}
use Rattle.aa_rules.specs.Reading.{rest_of}
use Rattle.aa_policy.proofs.Profiles.{statement_reads}
use Rattle.aa_rules.proofs.Repetition.{reaches_start, reaches_next, reaches_end, reaches_none}
use Rattle.aa_diagnostics.proofs.names.child_body_end.Goals as goal

pub statements-init : goal.statements-init
statements-init c = record {
  found = [];
  reach = reaches_start IsStatement Closes (rest_of c.args.words.now c.args.start);
  behind = omega arith;
}

pub statements-preserved : goal.statements-preserved
statements-preserved c =
    let one = c.in_ok-at.ensures.found in
    record {
      found = c.statements.invariant.found ++ one.0 ∷ [];
      reach = reaches_next IsStatement Closes statement_reads _ _ (rest_of c.args.words.now c.statements.at) _ _ one.1 c.statements.invariant.reach;
      behind = omega (arith, c.in_ok-at.ensures.within.0);
    }

pub returns-clause-found : goal.returns-clause-found
returns-clause-found c =
    let yes : Closes (rest_of c.args.words.now c.statements.at) (rest_of c.args.words.now (c.statements.at + 1)) = search rules in
    (c.statements.invariant.found, reaches_end IsStatement Closes _ _ (rest_of c.args.words.now c.statements.at) _ yes c.statements.invariant.reach)

pub returns-in_err-at-clause-refused : goal.returns-in_err-at-clause-refused
returns-in_err-at-clause-refused c =
    let q = err_from_is_err_and c.from_residual.result c.from_residual.ensures.1 in
    let words = c.args.words.now in
    let no : (r : List WordData) → Closes (rest_of words c.statements.at) r → ⊥ = search rules in
    rw (q.1) (λ ss rest b. reaches_none IsStatement Closes _ _ (rest_of words c.statements.at) ss rest c.in_err-at.ensures.refused no c.statements.invariant.reach b)
