use Rattle.std.proofs.Common.{◌≡◌, take}
use Rattle.aa_auto.proofs.classes.as_keys.Given as goal

abbrev pub invariant-loop-class : goal.invariant-loop-class
invariant-loop-class l = l.keys.items ≡ take l.class-index l.of
