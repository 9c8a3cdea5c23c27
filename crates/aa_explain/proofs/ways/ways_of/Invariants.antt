use Rattle.std.proofs.Common.{◌≡◌, take}
use Rattle.aa_auto.specs.Nodes.{pointed}
use Rattle.aa_explain.specs.Clashes.{executing, AreOwners}
use Rattle.aa_explain.proofs.ways.ways_of.Given as goal

abbrev pub invariant-loop-number : goal.invariant-loop-number
invariant-loop-number l = record {
  patterns : pointed l.ways.patterns.items ≡ executing (take l.number l.rules);
  owners : AreOwners l.rules l.number (pointed l.ways.patterns.items) l.ways.owners.items;
}
