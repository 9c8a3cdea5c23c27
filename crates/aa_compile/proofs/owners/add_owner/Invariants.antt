use Rattle.std.proofs.Common.{◌≡◌, ◌++◌, map, take}
use Rattle.aa_pattern.specs.declared.pattern.Pattern.{Pattern}
use Rattle.aa_compile.proofs.owners.add_owner.Given as goal

abbrev pub invariant-loop-pattern : goal.invariant-loop-pattern
invariant-loop-pattern l = l.owners.items ≡ l.fn.owners.items ++ map (λ (p : Pattern). l.number) (take l._pattern-index l._pattern-items)
