use Rattle.std.proofs.Common.{◌≡◌, ◌++◌, map, take}
use Rattle.std.specs.List.{flat_map}
use Rattle.aa_redundant.specs.Told.{telling}
use Rattle.aa_redundant.specs.Shown.{undecided_lines}
use Rattle.aa_redundant.proofs.shown.push_each_undecided.Given as goal

abbrev pub invariant-loop-rule : goal.invariant-loop-rule
invariant-loop-rule l = l.out.items ≡ l.fn.out.items ++ flat_map undecided_lines (map telling (take l.rule-index l.rules))
