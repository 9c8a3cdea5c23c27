use Rattle.std.proofs.Common.{◌≡◌, ◌++◌, map, take}
use Rattle.aa_compile.specs.Marks.{mark_by}
use Rattle.aa_compile.proofs.mark.add_marks.Given as goal

abbrev pub invariant-loop-pattern : goal.invariant-loop-pattern
invariant-loop-pattern l = l.marks.items ≡ l.fn.marks.items ++ map (mark_by l.rule l.way) (take l.pattern-index l.pattern-items)
