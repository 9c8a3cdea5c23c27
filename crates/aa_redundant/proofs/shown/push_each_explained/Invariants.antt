use Rattle.std.proofs.Common.{◌≡◌, ◌++◌, map, take}
use Rattle.std.specs.List.{flat_map}
use Rattle.aa_redundant.specs.Told.{explaining}
use Rattle.aa_redundant.specs.Shown.{explained_lines}
use Rattle.aa_redundant.proofs.shown.push_each_explained.Given as goal

abbrev pub invariant-loop-rule : goal.invariant-loop-rule
invariant-loop-rule l = l.out.items ≡ l.fn.out.items ++ flat_map explained_lines (map explaining (take l.rule-index l.rules))
