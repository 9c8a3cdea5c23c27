use Rattle.std.proofs.Common.{ap, sym, ◌∙◌}
use Rattle.aa_check.specs.Counts.{counted_keyword}
use Rattle.aa_check.proofs.Tally.{known, tallied_old, tallied_new}
use Rattle.aa_check.proofs.counting.keywords_of.Goals as goal
use Rattle.aa_check.proofs.counting.keywords_of.Goals.{then-not-is_known+in_ok-from_slice+in_ok-push, else-not-is_known}

pub loop-rule-preserved : goal.loop-rule-preserved
loop-rule-preserved c =
    let rules = c.args.rules.now in
    let i = c.loop-rule.rule-index in
    let rule = c.rule-item.result in
    let seen = c.loop-rule.passed.items in
    let told = c.is_known.ensures ∙ known c.as_slice.result.now seen c.as_slice-keyword.result.now rule.kind c.as_slice.ensures.value c.as_slice-keyword.ensures in
    elim c.if-not-is_known.branch [
      | then-not-is_known+in_ok-from_slice+in_ok-push w ↦
          rw w.passed-is (tallied_new rules i rule seen w.push.new.self.items w.times.result w.in_ok-from_slice.field-0 c.loop-rule-test.true c.rule-item.is c.loop-rule.invariant
          (sym told ∙ w.if-not-is_known.true) (w.in_ok-from_slice.ensures.items ∙ c.as_slice-keyword.ensures) (w.times.ensures ∙ ap (λ k. (counted_keyword rules k).1) c.as_slice-keyword.ensures) w.in_ok-push.ensures.items)
      | else-not-is_known w ↦
          rw w.passed-is (tallied_old rules i rule seen c.loop-rule-test.true c.rule-item.is c.loop-rule.invariant (sym told ∙ w.if-not-is_known.false))
    ]
