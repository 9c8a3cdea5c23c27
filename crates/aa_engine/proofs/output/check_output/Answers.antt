use Rattle.aa_engine.proofs.Checking.{checking_start, checking_more, checking_end}
use Rattle.aa_engine.proofs.output.check_output.Goals as goal

pub loop-number-init : goal.loop-number-init
loop-number-init c = checking_start _ _ _ c.new-out.ensures.bytes

pub loop-number-preserved : goal.loop-number-preserved
loop-number-preserved c =
    checking_more _ c.args.policies.now c.loop-number.number c.index-policies-number.result _ _ _ c.loop-number-test.true c.index-policies-number.is c.in_ok-push_number.ensures
    (rw c.policy.ensures at c.in_ok-push_policy_text.ensures) c.loop-number.invariant

pub returns : goal.returns
returns c = checking_end _ c.args.policies.now c.loop-number.number _ c.loop-number-test.false c.loop-number.invariant
