use Rattle.std.proofs.Common.{List, [], ◌++◌, map, refl, subst}
use Rattle.std.specs.List.{AllZip}
use Rattle.std.proofs.lemmas.List.{take_all}
use Rattle.std.proofs.lemmas.Result.{err_from_is_err_and}
use Rattle.aa_rules.specs.declared.tree.RuleTree.{RuleTree}
use Rattle.aa_rules.specs.Reading.{rule_data}
use Rattle.aa_policy.specs.Spelling.{MeansRule, files_of, on_file, rule_paths}
use Rattle.aa_policy.proofs.Expanded.{refused_at, passed_at}
use Rattle.aa_policy.proofs.Meaning.{rules_more, rule_expands}
use Rattle.aa_policy.proofs.Refusals.{handed_on}
use Rattle.aa_policy.proofs.expansion.file_rules.Goals as goal

pub loop-rule-init : goal.loop-rule-init
loop-rule-init c = record { rules = ([], tt, c.in_ok-found.ensures); left = λ e h. h }

pub returns-in_err-push_file_rule-clause-refused : goal.returns-in_err-push_file_rule-clause-refused
returns-in_err-push_file_rule-clause-refused c =
    let r = c.from_residual-in_err-push_file_rule in
    let q = err_from_is_err_and r.result r.ensures.1 in
    handed_on r.result _ _ _ q.1 q.2 (λ h. c.loop-rule.invariant.left _ (refused_at c.args.vars.now rule_paths rule_data c.args.rules.now c.loop-rule.rule-index _ _ c.loop-rule-test.true (c.in_err-push_file_rule.ensures.refused h)))

pub loop-rule-preserved : goal.loop-rule-preserved
loop-rule-preserved c =
    let before = c.loop-rule.invariant.rules in
    let pushed = c.in_ok-push_file_rule.ensures.rule in
    record {
      rules = (
        before.0 ++ pushed.0,
        rules_more on_file (MeansRule c.args.vars.now) c.args.rules.now c.loop-rule.rule-index _ before.0 _ c.loop-rule-test.true before.1 (pushed.0, refl, pushed.1),
        pushed.2 before.0 before.2,
      );
      left = λ e h. c.loop-rule.invariant.left e (passed_at c.args.vars.now rule_paths rule_data c.args.rules.now c.loop-rule.rule-index _ e c.loop-rule-test.true (rule_expands c.args.vars.now _ pushed.0 pushed.1) h);
    }

pub returns-clause-rules : goal.returns-clause-rules
returns-clause-rules c =
    let all = c.loop-rule.invariant.rules in
    (all.0, subst (λ (rs : List RuleTree). AllZip (MeansRule c.args.vars.now) (files_of (map rule_data rs)) all.0) (take_all c.loop-rule.rule-index c.args.rules.now c.loop-rule-test.false) all.1, all.2)
