use Rattle.std.proofs.Common.{◌+◌, sym, subst}
use Rattle.aa_auto.specs.Division.{AreKeys}
use Rattle.aa_auto.proofs.DivisionLemmas.{keys_more}
use Rattle.aa_auto.proofs.classes.keys_of.Goals as goal

pub loop-byte-preserved : goal.loop-byte-preserved
loop-byte-preserved c =
    subst (λ z. AreKeys c.args.of.now c.args.item.now z (c.loop-byte.byte + 1)) (sym c.in_ok-push.ensures.items)
    (keys_more c.args.of.now c.args.item.now c.loop-byte.keys.items c.loop-byte.byte c.key_of.result c.loop-byte.invariant c.key_of.ensures)
