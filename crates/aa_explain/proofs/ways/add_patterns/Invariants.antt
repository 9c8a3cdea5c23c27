use Rattle.std.proofs.Common.{◌≡◌, ◌++◌, map, take}
use Rattle.aa_pattern.specs.declared.pattern.Pattern.{Pattern}
use Rattle.aa_auto.specs.Nodes.{pointed}
use Rattle.aa_explain.proofs.ways.add_patterns.Given as goal

abbrev pub invariant-loop-pattern : goal.invariant-loop-pattern
invariant-loop-pattern l = record {
  patterns : pointed l.ways.patterns.items ≡ pointed l.fn.ways.patterns.items ++ take l.pattern-index l.patterns;
  owners : l.ways.owners.items ≡ l.fn.ways.owners.items ++ map (λ (p : Pattern). l.number) (take l.pattern-index l.patterns);
}
