use Rattle.std.proofs.lemmas.Result.{err_from_is_err_and}
use Rattle.aa_policy.proofs.Expanded.{expanding_then, refused_before}
use Rattle.aa_policy.proofs.Meaning.{rules_expand}
use Rattle.aa_policy.proofs.Refusals.{handed_on}
use Rattle.aa_rules.specs.Reading.{rule_data}
use Rattle.std.proofs.Common.{map}
use Rattle.aa_policy.proofs.expansion.read_rules.Goals as goal

pub returns-in_err-files-clause-refused : goal.returns-in_err-files-clause-refused
returns-in_err-files-clause-refused c =
    let r = c.from_residual in
    let q = err_from_is_err_and r.result r.ensures.1 in
    handed_on r.result _ _ _ q.1 q.2 (λ h. refused_before c.args.vars.now _ _ _ (c.in_err-files.ensures.refused h))

pub returns-in_err-changes-clause-refused : goal.returns-in_err-changes-clause-refused
returns-in_err-changes-clause-refused c =
    let vars = c.args.vars.now in
    let r = c.from_residual-in_err-changes in
    let q = err_from_is_err_and r.result r.ensures.1 in
    handed_on r.result _ _ _ q.1 q.2 (λ h. expanding_then vars _ _ _ (rules_expand vars (map rule_data c.args.rules.now) c.in_ok-files.ensures.rules.0 c.in_ok-files.ensures.rules.1) (c.in_err-changes.ensures.refused h vars))
