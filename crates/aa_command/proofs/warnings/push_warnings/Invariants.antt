use Rattle.std.proofs.Common.{◌≡◌, ◌++◌, take, flat_map}
use Rattle.aa_files.specs.Texts.{texts}
use Rattle.aa_command.specs.Policies.{warning_line}
use Rattle.aa_command.proofs.warnings.push_warnings.Given as goal

abbrev pub invariant-loop-warning : goal.invariant-loop-warning
invariant-loop-warning l = l.out.items ≡ l.initial.out.items ++ flat_map warning_line (texts (take l.warning-index l.warnings))
