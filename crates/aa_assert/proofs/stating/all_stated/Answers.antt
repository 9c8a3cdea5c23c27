use Rattle.aa_claims.proofs.Claims.{handed_on}
use Rattle.aa_assert.proofs.Turns.{stated_next, unstated}
use Rattle.aa_assert.proofs.stating.all_stated.Goals as goal

pub loop-line-preserved : goal.loop-line-preserved
loop-line-preserved c =
    stated_next c.args.part c.args.claims.now c.loop-line.line-index c.line-item.result c.loop-line.list.items c.push.new.self.items
    c.in_ok-stated_of.field-0 c.loop-line-test.true c.line-item.is c.in_ok-push.ensures.items c.in_ok-stated_of.ensures.stated c.loop-line.invariant

pub returns-in_err-stated_of-clause-refused : goal.returns-in_err-stated_of-clause-refused
returns-in_err-stated_of-clause-refused c =
    handed_on c.from_residual.result _ _ c.from_residual.ensures.1
    (λ y p. rw p (unstated c.args.part c.args.claims.now c.loop-line.line-index c.line-item.result c.loop-line.list.items
    c.in_err-stated_of.field-0.0 c.loop-line-test.true c.line-item.is c.loop-line.invariant c.in_err-stated_of.ensures.refused))
