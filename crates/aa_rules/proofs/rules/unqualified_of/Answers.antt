use Rattle.std.proofs.Common.{◌+◌, ℕ, List, subst, rules}
use Rattle.std.specs.Prelude.{codes}
use Rattle.std.proofs.lemmas.Result.{err_from_is_err_and}
use Rattle.aa_words.specs.declared.word.WordKind.TheVariants.{Skipped}
use Rattle.aa_rules.specs.Grammar.{Lacks, Keyword, LacksKeyword}
use Rattle.aa_rules.specs.Reading.{rest_of}
use Rattle.aa_rules.specs.RuleFaults.{IsFaultBy, SayingFails, InCap, InNet, InChange, InFile}
use Rattle.aa_rules.proofs.Refusals.{told_on}
use Rattle.aa_rules.proofs.Productions.{says_no_cap, says_no_net, says_no_change, says_none}
use Rattle.aa_rules.proofs.rules.unqualified_of.Goals as goal

pub returns-in_err-rule-clause-refused : goal.returns-in_err-rule-clause-refused
returns-in_err-rule-clause-refused c =
    let q = err_from_is_err_and c.from_residual.result c.from_residual.ensures.1 in
    let at = c.args.at in
    let keyword : Keyword (codes "capability") (rest_of c.args.words.now at) (rest_of c.args.words.now (at + 1)) = search rules in
    rw (q.1) (says_no_cap _ _ _ keyword c.in_err-rule.ensures.refused)

pub returns-in_err-rule-2-clause-refused : goal.returns-in_err-rule-2-clause-refused
returns-in_err-rule-2-clause-refused c =
    let q = err_from_is_err_and c.from_residual-in_err-rule-2.result c.from_residual-in_err-rule-2.ensures.1 in
    let at = c.args.at in
    let keyword : Keyword (codes "network") (rest_of c.args.words.now at) (rest_of c.args.words.now (at + 1)) = search rules in
    rw (q.1) (says_no_net _ _ _ keyword c.in_err-rule-2.ensures.refused)

pub returns-in_err-rule-3-clause-refused : goal.returns-in_err-rule-3-clause-refused
returns-in_err-rule-3-clause-refused c =
    let q = err_from_is_err_and c.from_residual-in_err-rule-3.result c.from_residual-in_err-rule-3.ensures.1 in
    let at = c.args.at in
    let keyword : Keyword (codes "change_profile") (rest_of c.args.words.now at) (rest_of c.args.words.now (at + 1)) = search rules in
    rw (q.1) (says_no_change _ _ _ keyword c.in_err-rule-3.ensures.refused)

pub returns-in_err-file-clause-refused : goal.returns-in_err-file-clause-refused
returns-in_err-file-clause-refused c =
    let q = err_from_is_err_and c.from_residual-in_err-file.result c.from_residual-in_err-file.ensures.1 in
    let no_cap : LacksKeyword (codes "capability") (rest_of c.args.words.now c.args.at) = search rules in
    let no_net : LacksKeyword (codes "network") (rest_of c.args.words.now c.args.at) = subst (λ (t : List ℕ). LacksKeyword t (rest_of c.args.words.now c.args.at)) c.as_bytes-2.ensures.value c.if-keyword_stands-2.ensures.no in
    let no_change : LacksKeyword (codes "change_profile") (rest_of c.args.words.now c.args.at) = subst (λ (t : List ℕ). LacksKeyword t (rest_of c.args.words.now c.args.at)) c.as_bytes-3.ensures.value c.if-keyword_stands-3.ensures.no in
    let none : Lacks Skipped (rest_of c.args.words.now c.args.at) = search rules in
    rw (q.1) (says_none _ _ c.in_err-file.ensures.refused no_cap no_net no_change none)

pub returns-in_err-rule-clause-fails : goal.returns-in_err-rule-clause-fails
returns-in_err-rule-clause-fails c =
    let r = c.from_residual in
    let q = err_from_is_err_and r.result r.ensures.1 in
    let keyword : Keyword (codes "capability") (rest_of c.args.words.now c.args.at) (rest_of c.args.words.now (c.args.at + 1)) = search rules in
    let f = c.in_err-rule.ensures.fails in
    told_on r.result _ _ (IsFaultBy (SayingFails c.args.place.qualified c.args.qualifiers.deny) _ c.args.end) q.1 q.2 (record { rest = f.rest; fails = InCap _ keyword f.fails; at_is = f.at_is })

pub returns-in_err-rule-2-clause-fails : goal.returns-in_err-rule-2-clause-fails
returns-in_err-rule-2-clause-fails c =
    let r = c.from_residual-in_err-rule-2 in
    let q = err_from_is_err_and r.result r.ensures.1 in
    let keyword : Keyword (codes "network") (rest_of c.args.words.now c.args.at) (rest_of c.args.words.now (c.args.at + 1)) = search rules in
    let f = c.in_err-rule-2.ensures.fails in
    told_on r.result _ _ (IsFaultBy (SayingFails c.args.place.qualified c.args.qualifiers.deny) _ c.args.end) q.1 q.2 (record { rest = f.rest; fails = InNet _ keyword f.fails; at_is = f.at_is })

pub returns-in_err-rule-3-clause-fails : goal.returns-in_err-rule-3-clause-fails
returns-in_err-rule-3-clause-fails c =
    let r = c.from_residual-in_err-rule-3 in
    let q = err_from_is_err_and r.result r.ensures.1 in
    let keyword : Keyword (codes "change_profile") (rest_of c.args.words.now c.args.at) (rest_of c.args.words.now (c.args.at + 1)) = search rules in
    let f = c.in_err-rule-3.ensures.fails in
    told_on r.result _ _ (IsFaultBy (SayingFails c.args.place.qualified c.args.qualifiers.deny) _ c.args.end) q.1 q.2 (record { rest = f.rest; fails = InChange _ keyword f.fails; at_is = f.at_is })

pub returns-in_err-file-clause-fails : goal.returns-in_err-file-clause-fails
returns-in_err-file-clause-fails c =
    let r = c.from_residual-in_err-file in
    let q = err_from_is_err_and r.result r.ensures.1 in
    let no_cap : LacksKeyword (codes "capability") (rest_of c.args.words.now c.args.at) = search rules in
    let no_net : LacksKeyword (codes "network") (rest_of c.args.words.now c.args.at) = subst (λ (t : List ℕ). LacksKeyword t (rest_of c.args.words.now c.args.at)) c.as_bytes-2.ensures.value c.if-keyword_stands-2.ensures.no in
    let no_change : LacksKeyword (codes "change_profile") (rest_of c.args.words.now c.args.at) = subst (λ (t : List ℕ). LacksKeyword t (rest_of c.args.words.now c.args.at)) c.as_bytes-3.ensures.value c.if-keyword_stands-3.ensures.no in
    let f = c.in_err-file.ensures.fails in
    told_on r.result _ _ (IsFaultBy (SayingFails c.args.place.qualified c.args.qualifiers.deny) _ c.args.end) q.1 q.2 (record { rest = f.rest; fails = InFile no_cap no_net no_change f.fails; at_is = f.at_is })
