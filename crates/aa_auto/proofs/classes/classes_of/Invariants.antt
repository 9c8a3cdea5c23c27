use Rattle.std.proofs.Common.{◌≡◌, length, take}
use Rattle.aa_auto.specs.Division.{AreClasses, AreAlone}
use Rattle.aa_auto.proofs.classes.classes_of.Given as goal

abbrev pub invariant-loop-node : goal.invariant-loop-node
invariant-loop-node l = record {
  classes : AreClasses (take l.node-index l.nodes) l.classes.of.items l.classes.bytes.items;
  many : length l.alone.items ≡ 256;
  alone : AreAlone l.classes.of.items l.alone.items;
}
