use Rattle.std.proofs.Common.{◌≡◌, ◌++◌, take, flat_map}
use Rattle.aa_check.specs.Printed.{warning_line}
use Rattle.aa_check.proofs.checked.push_each_warning.Given as goal

abbrev pub invariant-loop-warning : goal.invariant-loop-warning
invariant-loop-warning l = l.out.items ≡ l.initial.out.items ++ flat_map warning_line (take l.warning-index l.warnings)
