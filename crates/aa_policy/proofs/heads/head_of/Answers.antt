use Rattle.std.proofs.lemmas.Result.{err_from_is_err_and}
use Rattle.aa_rules.specs.Reading.{rest_of}
use Rattle.aa_rules.specs.RuleFaults.{IsFaultBy}
use Rattle.aa_rules.proofs.Refusals.{told_on}
use Rattle.aa_policy.specs.HeadFaults.{HeadFails, Untitled, Unbraced}
use Rattle.aa_policy.proofs.HeadProductions.{no_open}
use Rattle.aa_policy.proofs.heads.head_of.Goals as goal

pub returns-in_err-title-clause-refused : goal.returns-in_err-title-clause-refused
returns-in_err-title-clause-refused c =
    let q = err_from_is_err_and c.from_residual.result c.from_residual.ensures.1 in
    rw (q.1) (λ h rest a. c.in_err-title.ensures.refused h.title a.after a.title)

pub returns-in_err-flags-clause-refused : goal.returns-in_err-flags-clause-refused
returns-in_err-flags-clause-refused c =
    let q = err_from_is_err_and c.from_residual-in_err-flags.result c.from_residual-in_err-flags.ensures.1 in
    rw (q.1) (λ h rest a. no_open _ _ _ _ c.in_ok-title.ensures.found c.in_err-flags.ensures.refused h rest a)

pub returns-in_err-title-clause-fails : goal.returns-in_err-title-clause-fails
returns-in_err-title-clause-fails c =
    let r = c.from_residual in
    let q = err_from_is_err_and r.result r.ensures.1 in
    let f = c.in_err-title.ensures.fails in
    told_on r.result _ _ (IsFaultBy (HeadFails c.args.top) (rest_of c.args.words.now c.args.at) c.args.end) q.1 q.2
    (record { rest = f.rest; fails = Untitled c.in_err-title.ensures.refused f.fails; at_is = f.at_is })

pub returns-in_err-flags-clause-fails : goal.returns-in_err-flags-clause-fails
returns-in_err-flags-clause-fails c =
    let r = c.from_residual-in_err-flags in
    let q = err_from_is_err_and r.result r.ensures.1 in
    let f = c.in_err-flags.ensures.fails in
    told_on r.result _ _ (IsFaultBy (HeadFails c.args.top) (rest_of c.args.words.now c.args.at) c.args.end) q.1 q.2
    (record { rest = f.rest; fails = Unbraced _ _ c.in_ok-title.ensures.found f.fails; at_is = f.at_is })
