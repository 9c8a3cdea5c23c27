use Rattle.aa_compile.proofs.Owned.{owners_go}
use Rattle.aa_compile.proofs.owners.owners_of.Goals as goal

pub loop-number-preserved : goal.loop-number-preserved
loop-number-preserved c =
    owners_go c.args.rules.now c.loop-number.number c.index-rules-number.result c.loop-number.owners.items c.add_owner.new.owners.items c.loop-number-test.true c.index-rules-number.is c.in_ok-add_owner.ensures c.loop-number.invariant
