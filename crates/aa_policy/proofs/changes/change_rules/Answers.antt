use Rattle.std.proofs.lemmas.Result.{err_from_is_err_and}
use Rattle.aa_rules.specs.Reading.{rule_data}
use Rattle.aa_policy.specs.Spelling.{MeansChange, on_change, change_paths}
use Rattle.aa_policy.proofs.Expanded.{refused_at, passed_at}
use Rattle.aa_policy.proofs.Meaning.{rules_more, change_expands}
use Rattle.aa_policy.proofs.Refusals.{handed_on}
use Rattle.aa_policy.proofs.changes.change_rules.Goals as goal

pub returns-in_err-push_change_rule-clause-refused : goal.returns-in_err-push_change_rule-clause-refused
returns-in_err-push_change_rule-clause-refused c =
    let r = c.from_residual in
    let q = err_from_is_err_and r.result r.ensures.1 in
    handed_on r.result _ _ _ q.1 q.2
    (λ h vars. c.loop-rule.invariant.left vars _
    (refused_at vars change_paths rule_data c.args.rules.now c.loop-rule.rule-index _ _ c.loop-rule-test.true
    (c.in_err-push_change_rule.ensures.refused h vars)))

pub loop-rule-preserved : goal.loop-rule-preserved
loop-rule-preserved c =
    let pushed = c.in_ok-push_change_rule.ensures.rule in
    record {
      rules = rules_more on_change MeansChange c.args.rules.now c.loop-rule.rule-index _ c.loop-rule.found.items _ c.loop-rule-test.true c.loop-rule.invariant.rules pushed;
      left = λ vars e h. c.loop-rule.invariant.left vars e (passed_at vars change_paths rule_data c.args.rules.now c.loop-rule.rule-index _ e c.loop-rule-test.true (change_expands vars _ pushed.0 pushed.2) h);
    }
