use Rattle.aa_auto.specs.Division.{AreKeys}
use Rattle.aa_auto.proofs.classes.keys_of.Given as goal

abbrev pub invariant-loop-byte : goal.invariant-loop-byte
invariant-loop-byte l = AreKeys l.of l.item l.keys.items l.byte
