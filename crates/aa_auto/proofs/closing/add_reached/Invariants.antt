use Rattle.std.proofs.Common.{◌≡◌, length, map}
use Rattle.aa_auto.specs.Closed.{AreIndexed, IsClosing}
use Rattle.aa_auto.proofs.closing.add_reached.Given as goal

abbrev pub invariant-loop-index : goal.invariant-loop-index
invariant-loop-index l = record {
  many : length l.indexes ≡ length l.fn.indexes;
  indexed : AreIndexed l.indexes l.set.items;
  closing : IsClosing (map (λ v. v.items) l.jumps) l.fn.set.items l.set.items l.index;
}
