use Rattle.std.proofs.Common.{◌+◌, List, [], ◌∷◌, ◌++◌, rules, arith}
use Rattle.std.proofs.lemmas.Result.{err_from_is_err_and}
use Rattle.aa_words.specs.Splits.{WordData}
use Rattle.aa_policy.proofs.Refusals.{refused_by}
use Rattle.aa_policy.specs.Bodies.{IsStatement, if_any}
use Rattle.aa_policy.proofs.Profiles.{statement_reads}
use Rattle.aa_rules.proofs.Repetition.{reaches_start, reaches_next, reaches_none}
use Rattle.aa_explain.proofs.Plain.{plain, statement_plain}
use Rattle.aa_rules.specs.Grammar.{Closes}
use Rattle.aa_rules.specs.Reading.{rest_of}
use Rattle.aa_explain.specs.Places.{IsPlacedStatement}
use Rattle.aa_explain.proofs.Placing.{goes_start, goes_next, goes_end, with_none, placed_more}
use Rattle.aa_explain.proofs.places.push_child_body.Goals as goal

pub statements-init : goal.statements-init
statements-init c = record {
  found = [];
  read = [];
  reach = reaches_start IsStatement Closes (rest_of c.args.words.now c.args.start);
  goes = goes_start IsPlacedStatement Closes (rest_of c.args.words.now c.args.start);
  placed = with_none _;
  behind = omega arith;
}

pub statements-preserved : goal.statements-preserved
statements-preserved c =
    let next = c.in_ok-at.ensures.found in record {
      found = c.statements.invariant.found ++ next.0 ∷ [];
      read = c.statements.invariant.read ++ plain next.0 ∷ [];
      reach = reaches_next IsStatement Closes statement_reads _ _ (rest_of c.args.words.now c.statements.at) _ _ (statement_plain _ next.0 _ next.1) c.statements.invariant.reach;
      goes = goes_next IsPlacedStatement Closes _ _ (rest_of c.args.words.now c.statements.at) _ _ next.1 c.statements.invariant.goes;
      placed = placed_more if_any _ _ _ c.statements.invariant.found next.0 next.2 c.statements.invariant.placed;
      behind = omega (arith, c.in_ok-at.ensures.within.0);
    }

pub returns-in_err-at-clause-refused : goal.returns-in_err-at-clause-refused
returns-in_err-at-clause-refused c = λ h ss rest b.
    let q = err_from_is_err_and c.from_residual.result c.from_residual.ensures.1 in
    let no : (r : List WordData) → Closes (rest_of c.args.words.now c.statements.at) r → ⊥ = search rules in
    reaches_none IsStatement Closes _ _ (rest_of c.args.words.now c.statements.at) ss rest
    (c.in_err-at.ensures.refused (refused_by c.from_residual.result _ _ q.1 q.2 h)) no c.statements.invariant.reach b

pub returns-clause-found : goal.returns-clause-found
returns-clause-found c =
    let yes : Closes (rest_of c.args.words.now c.statements.at) (rest_of c.args.words.now (c.statements.at + 1)) = search rules in
    (c.statements.invariant.found, goes_end IsPlacedStatement Closes _ _ (rest_of c.args.words.now c.statements.at) _ yes c.statements.invariant.goes, c.statements.invariant.placed)
