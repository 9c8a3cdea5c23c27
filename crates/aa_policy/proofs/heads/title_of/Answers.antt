use Rattle.std.proofs.Common.{refl, ◌+◌, rules}
use Rattle.std.specs.Prelude.{codes}
use Rattle.std.proofs.lemmas.Result.{on_err_weaker}
use Rattle.aa_rules.specs.Grammar.{Keyword, LacksKeyword}
use Rattle.aa_rules.specs.Reading.{rest_of}
use Rattle.aa_rules.proofs.Refusals.{err_both}
use Rattle.aa_policy.specs.HeadFaults.{Misnamed, NoPath}
use Rattle.aa_policy.proofs.HeadProductions.{no_named, no_title}
use Rattle.aa_policy.proofs.heads.title_of.Goals as goal

pub returns-then-keyword_stands-clause-refused : goal.returns-then-keyword_stands-clause-refused
returns-then-keyword_stands-clause-refused c =
    let yes : Keyword (codes "profile") (rest_of c.args.words.now c.args.at) _ = search rules in
    on_err_weaker c.named_of.result (no_named _ _ _ yes) c.named_of.ensures.refused

pub returns-clause-refused : goal.returns-clause-refused
returns-clause-refused c =
    let no : LacksKeyword (codes "profile") (rest_of c.args.words.now c.args.at) = search rules in
    on_err_weaker c.path_named_of.result (no_title _ _ no) c.path_named_of.ensures.refused

pub returns-then-keyword_stands-clause-fails : goal.returns-then-keyword_stands-clause-fails
returns-then-keyword_stands-clause-fails c =
    let yes : Keyword (codes "profile") (rest_of c.args.words.now c.args.at) (rest_of c.args.words.now (c.args.at + 1)) = search rules in
    err_both c.named_of.result _ _ _ c.named_of.ensures.kind c.named_of.ensures.at (λ e k a. record { rest = rest_of c.args.words.now (c.args.at + 1); fails = Misnamed yes k; at_is = a })

pub returns-clause-fails : goal.returns-clause-fails
returns-clause-fails c =
    let no : LacksKeyword (codes "profile") (rest_of c.args.words.now c.args.at) = search rules in
    err_both c.path_named_of.result _ _ _ c.path_named_of.ensures.kind c.path_named_of.ensures.at (λ e k a. record { rest = rest_of c.args.words.now c.args.at; fails = NoPath no refl k; at_is = a })
