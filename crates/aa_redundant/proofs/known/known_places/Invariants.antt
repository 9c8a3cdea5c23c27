use Rattle.std.proofs.Common.{◌≡◌, take}
use Rattle.aa_redundant.specs.Places.{same_place, distinct}
use Rattle.aa_redundant.specs.Known.{AreKeys}
use Rattle.aa_redundant.proofs.known.known_places.Given as goal

abbrev pub invariant-loop-one : goal.invariant-loop-one
invariant-loop-one l = record {
  keys : AreKeys l.units l.keys.keys l.places.items;
  places : l.places.items ≡ distinct (same_place l.units) (take l.one-index l.all);
}
