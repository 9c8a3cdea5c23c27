use Rattle.std.proofs.Common.{◌≡◌, ◌++◌, take, flat_map}
use Rattle.aa_check.specs.Gcc.{gcc_warning}
use Rattle.aa_check.proofs.gcc.push_each_warning.Given as goal

abbrev pub invariant-loop-warning : goal.invariant-loop-warning
invariant-loop-warning l = l.out.items ≡ l.initial.out.items ++ flat_map gcc_warning (take l.warning-index l.warnings)
