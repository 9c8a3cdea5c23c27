use Rattle.std.proofs.Common.{◌+◌, ◌<◌, length, arith, sym, subst}
use Rattle.std.proofs.lemmas.List.{get_or_default}
use Rattle.aa_auto.specs.Division.{Divides}
use Rattle.aa_auto.proofs.DivisionLemmas.{divides_more}
use Rattle.aa_auto.proofs.classes.divide.Goals as goal

pub loop-byte-preserved : goal.loop-byte-preserved
loop-byte-preserved c =
    subst (λ z. Divides c.args.keys.now (c.loop-byte.byte + 1) z c.class_for.new.bytes.items) (sym c.in_ok-push.ensures.items)
    (divides_more c.args.keys.now c.loop-byte.byte c.loop-byte.of.items c.loop-byte.bytes.items c.in_ok-class.class c.loop-byte.invariant c.class_for.new.bytes.items c.in_ok-class.ensures)

pub class_for-requires-clause-bytes : goal.class_for-requires-clause-bytes
class_for-requires-clause-bytes c = λ k d lt.
    subst (λ b. b < length c.args.keys.now) (sym (get_or_default c.loop-byte.bytes.items k d 0 lt))
    (omega (arith, (c.loop-byte.invariant.named k lt).0, c.loop-byte-test.true, c.requires))
