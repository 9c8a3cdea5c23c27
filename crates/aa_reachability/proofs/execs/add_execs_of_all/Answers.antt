use Rattle.std.proofs.Common.{arith}
use Rattle.aa_representatives.specs.Askable.{IsExec}
use Rattle.aa_representatives.proofs.Adding.{adds_both}
use Rattle.aa_representatives.proofs.Linking.{elements_more}
use Rattle.aa_reachability.specs.Single.{HasExecsOf}
use Rattle.aa_reachability.proofs.Elements.{of_each}
use Rattle.aa_reachability.proofs.Single.{execs_keep}
use Rattle.aa_reachability.proofs.execs.add_execs_of_all.Goals as goal

pub returns-then-not-is_one-clause-adds : goal.returns-then-not-is_one-clause-adds
returns-then-not-is_one-clause-adds c =
    adds_both IsExec c.args.requests.now.items c.loop-pattern.requests.items c.add_execs_of.new.requests.items c.loop-pattern.invariant.adds
    c.in_ok-is_one.ensures.adds

pub loop-pattern-preserved : goal.loop-pattern-preserved
loop-pattern-preserved c =
    let was = c.loop-pattern.requests.items in
    let now = c.add_execs_of.new.requests.items in
    let made = c.in_ok-is_one.ensures in
    record {
      adds = adds_both IsExec c.args.requests.now.items was now c.loop-pattern.invariant.adds made.adds;
      has = elements_more c.args.patterns.now c.loop-pattern.pattern-index c.pattern-item.result (HasExecsOf was) (HasExecsOf now)
          c.loop-pattern-test.true c.pattern-item.is (execs_keep was now made.adds) (made.has c.if-not-is_one.false) c.loop-pattern.invariant.has;
    }

pub returns-clause-has : goal.returns-clause-has
returns-clause-has c = λ yes.
    of_each (HasExecsOf c.loop-pattern.requests.items) c.args.patterns.now c.loop-pattern.pattern-index (omega (arith, c.loop-pattern-test.false))
    c.loop-pattern.invariant.has
