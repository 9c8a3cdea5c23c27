use Rattle.std.proofs.Common.{arith}
use Rattle.aa_model.specs.declared.rule.FileRule.{FileRule}
use Rattle.aa_representatives.specs.Askable.{IsExec}
use Rattle.aa_representatives.proofs.Adding.{adds_both}
use Rattle.aa_representatives.proofs.Linking.{elements_more}
use Rattle.aa_reachability.specs.Single.{HasExecsOfRule}
use Rattle.aa_reachability.proofs.Elements.{of_each}
use Rattle.aa_reachability.proofs.Single.{execs_keep}
use Rattle.aa_reachability.proofs.execs.add_execs_of_rules.Goals as goal

pub returns-then-not-are_all-clause-adds : goal.returns-then-not-are_all-clause-adds
returns-then-not-are_all-clause-adds c =
    adds_both IsExec c.args.requests.now.items c.loop-rule.requests.items c.add_execs_of_rule.new.requests.items c.loop-rule.invariant.adds
    c.in_ok-are_all.ensures.adds

pub loop-rule-preserved : goal.loop-rule-preserved
loop-rule-preserved c =
    let was = c.loop-rule.requests.items in
    let now = c.add_execs_of_rule.new.requests.items in
    let made = c.in_ok-are_all.ensures in
    record {
      adds = adds_both IsExec c.args.requests.now.items was now c.loop-rule.invariant.adds made.adds;
      has = elements_more c.args.rules.now c.loop-rule.rule-index c.rule-item.result (HasExecsOfRule was) (HasExecsOfRule now)
          c.loop-rule-test.true c.rule-item.is (λ r has how p among. execs_keep was now made.adds p (has how p among)) (made.has c.if-not-are_all.false)
          c.loop-rule.invariant.has;
    }

pub returns-clause-has : goal.returns-clause-has
returns-clause-has c = λ yes.
    of_each (HasExecsOfRule c.loop-rule.requests.items) c.args.rules.now c.loop-rule.rule-index (omega (arith, c.loop-rule-test.false))
    c.loop-rule.invariant.has
