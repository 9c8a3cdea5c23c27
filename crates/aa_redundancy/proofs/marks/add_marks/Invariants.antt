use Rattle.std.proofs.Common.{◌≡◌, ◌++◌, map, take}
use Rattle.aa_redundancy.specs.Marks.{mark_with}
use Rattle.aa_redundancy.proofs.marks.add_marks.Given as goal

abbrev pub invariant-loop-pattern : goal.invariant-loop-pattern
invariant-loop-pattern l = l.marks.items ≡ l.fn.marks.items ++ map (mark_with l.number l.rule l.way) (take l.pattern-index l.pattern-items)
