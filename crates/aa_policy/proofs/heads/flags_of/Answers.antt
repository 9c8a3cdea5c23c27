use Rattle.std.proofs.lemmas.Result.{err_from_is_err_and, on_err_weaker, IfOk-weaker}
use Rattle.aa_rules.specs.Reading.{rest_of}
use Rattle.aa_rules.specs.RuleFaults.{IsFaultBy}
use Rattle.aa_rules.proofs.Refusals.{told_on, err_weaker}
use Rattle.aa_policy.specs.HeadFaults.{FlagsFail, InList}
use Rattle.aa_policy.proofs.HeadProductions.{no_flags}
use Rattle.aa_policy.proofs.heads.flags_of.Goals as goal

pub returns-in_err-inside-clause-refused : goal.returns-in_err-inside-clause-refused
returns-in_err-inside-clause-refused c =
    let q = err_from_is_err_and c.from_residual.result c.from_residual.ensures.1 in
    rw (q.1) (λ flags rest a. c.in_err-inside.ensures.refused a.inside a.opens)

pub returns-clause-found : goal.returns-clause-found
returns-clause-found c =
    IfOk-weaker c.flag_list_of.result _ _ (λ r f. record { inside = rest_of c.args.words.now c.in_ok-inside.inside; opens = c.in_ok-inside.ensures.found; listed = f }) c.flag_list_of.ensures.found

pub returns-clause-refused : goal.returns-clause-refused
returns-clause-refused c = on_err_weaker c.flag_list_of.result (no_flags _ _ c.in_ok-inside.ensures.found) c.flag_list_of.ensures.refused

pub returns-in_err-inside-clause-fails : goal.returns-in_err-inside-clause-fails
returns-in_err-inside-clause-fails c =
    let q = err_from_is_err_and c.from_residual.result c.from_residual.ensures.1 in
    told_on c.from_residual.result _ _ (IsFaultBy FlagsFail (rest_of c.args.words.now c.args.at) c.args.end) q.1 q.2 c.in_err-inside.ensures.fails

pub returns-clause-fails : goal.returns-clause-fails
returns-clause-fails c =
    err_weaker c.flag_list_of.result _ _ c.flag_list_of.ensures.fails (λ e f. record { rest = f.rest; fails = InList _ c.in_ok-inside.ensures.found f.fails; at_is = f.at_is })
