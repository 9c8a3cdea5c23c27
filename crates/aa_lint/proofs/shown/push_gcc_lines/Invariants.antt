use Rattle.std.proofs.Common.{◌≡◌, ◌++◌, map, take}
use Rattle.std.specs.List.{flat_map}
use Rattle.aa_lint.specs.Telling.{telling}
use Rattle.aa_lint.specs.Shown.{gcc_line}
use Rattle.aa_lint.proofs.shown.push_gcc_lines.Given as goal

abbrev pub invariant-loop-told : goal.invariant-loop-told
invariant-loop-told l = l.out.items ≡ l.fn.out.items ++ flat_map gcc_line (map telling (take l.told-index l.all))
