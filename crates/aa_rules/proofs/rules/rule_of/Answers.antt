use Rattle.std.proofs.Common.{rules}
use Rattle.std.proofs.lemmas.Result.{err_from_is_err_and}
use Rattle.aa_words.specs.declared.word.WordKind.TheVariants.{Comma}
use Rattle.aa_rules.specs.Grammar.{Lacks}
use Rattle.aa_rules.specs.Reading.{rest_of}
use Rattle.aa_rules.specs.RuleFaults.{IsFaultBy, RuleFails, Takes, Unsaid, NoComma}
use Rattle.aa_rules.proofs.Places.{takes}
use Rattle.aa_rules.proofs.Refusals.{told_on}
use Rattle.aa_rules.proofs.Productions.{no_meaning, no_comma}
use Rattle.aa_rules.proofs.rules.rule_of.Goals as goal

pub returns-in_err-rule-clause-refused : goal.returns-in_err-rule-clause-refused
returns-in_err-rule-clause-refused c =
    let q = err_from_is_err_and c.from_residual.result c.from_residual.ensures.1 in
    rw (q.1) (λ x rest a. no_meaning _ _ _ x rest c.qualifiers_of-unqualified.ensures.read c.in_err-rule.ensures.refused a)

pub returns-in_default-clause-refused : goal.returns-in_default-clause-refused
returns-in_default-clause-refused c = λ x rest a.
    let none : Lacks Comma (rest_of c.args.words.now c.in_ok-rule.next) = search rules in
    no_comma _ _ _ _ _ x rest c.qualifiers_of-unqualified.ensures.read c.in_ok-rule.ensures.found none a

pub returns-in_err-rule-clause-fails : goal.returns-in_err-rule-clause-fails
returns-in_err-rule-clause-fails c =
    let r = c.from_residual in
    let q = err_from_is_err_and r.result r.ensures.1 in
    let words = c.args.words.now in
    let read = c.qualifiers_of-unqualified.ensures in
    let place = c.behind_qualifiers-place.result in
    let took : Takes (rest_of words c.args.at) (rest_of words c.qualifiers_of-unqualified.result.1) place.qualified = takes words _ _ place.qualified read.onward read.within c.behind_qualifiers-place.ensures in
    let f = c.in_err-rule.ensures.fails in
    told_on r.result _ _ (IsFaultBy RuleFails (rest_of words c.args.at) c.args.end) q.1 q.2
    (record { rest = f.rest; fails = Unsaid place.qualified _ _ read.read took c.in_err-rule.ensures.refused f.fails; at_is = f.at_is })

pub returns-in_default-clause-fails : goal.returns-in_default-clause-fails
returns-in_default-clause-fails c =
    let none : Lacks Comma (rest_of c.args.words.now c.in_ok-rule.next) = search rules in
    record {
      rest = rest_of c.args.words.now c.in_ok-rule.next;
      fails = NoComma _ _ _ c.qualifiers_of-unqualified.ensures.read c.in_ok-rule.ensures.found none c.no_comma_fault.ensures.kind;
      at_is = c.no_comma_fault.ensures.at;
    }
