use Rattle.aa_auto.specs.declared.classes.Classes.{Classes}
use Rattle.aa_auto.proofs.DivisionLemmas.{if_ok, out_by_node}
use Rattle.aa_auto.proofs.classes.refined.Goals as goal

pub returns-then-can_leave : goal.returns-then-can_leave
returns-then-can_leave c =
    if_ok c.take_out.result
    (λ (new : Classes) out. out_by_node c.args.classes.of.items new.of.items new.bytes.items c.in-Byte.byte c.args.node.now c.in-After.item c.in-After.is c.in-Byte.is (c.can_leave.ensures c.if-can_leave.true).some out)
    c.take_out.ensures
