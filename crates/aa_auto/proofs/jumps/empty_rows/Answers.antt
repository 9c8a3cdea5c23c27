use Rattle.std.proofs.Common.{◌+◌, ap, sym, subst, ◌∙◌}
use Rattle.aa_auto.specs.Spots.{AreEmpty}
use Rattle.aa_auto.proofs.JumpLemmas.{lists, lists_push, empty_none, empty_more}
use Rattle.aa_auto.proofs.jumps.empty_rows.Goals as goal

pub loop-i-init : goal.loop-i-init
loop-i-init c = empty_none (lists c.new-rows.result.items) (ap lists c.new-rows.ensures.items)

pub loop-i-preserved : goal.loop-i-preserved
loop-i-preserved c =
    subst (λ z. AreEmpty z (c.loop-i._i + 1)) (sym (ap lists c.in_ok-push.ensures.items ∙ lists_push c.loop-i.rows.items c.new.result))
    (empty_more (lists c.loop-i.rows.items) c.new.result.items c.loop-i._i c.new.ensures.items c.loop-i.invariant)
