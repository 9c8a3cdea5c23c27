use Rattle.std.proofs.Common.{◌≡◌, ◌++◌, map, take}
use Rattle.std.specs.List.{flat_map}
use Rattle.aa_redundant.specs.Told.{explaining}
use Rattle.aa_redundant.specs.Shown.{gcc_line}
use Rattle.aa_redundant.proofs.shown.push_gcc_lines.Given as goal

abbrev pub invariant-loop-rule : goal.invariant-loop-rule
invariant-loop-rule l = l.out.items ≡ l.fn.out.items ++ flat_map gcc_line (map explaining (take l.rule-index l.rules))
