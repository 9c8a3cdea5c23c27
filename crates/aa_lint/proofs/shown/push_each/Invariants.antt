use Rattle.std.proofs.Common.{◌≡◌, ◌++◌, map, take}
use Rattle.std.specs.List.{flat_map}
use Rattle.aa_lint.specs.Telling.{telling}
use Rattle.aa_lint.specs.Shown.{line_text}
use Rattle.aa_lint.proofs.shown.push_each.Given as goal

abbrev pub invariant-loop-told : goal.invariant-loop-told
invariant-loop-told l = l.out.items ≡ l.fn.out.items ++ flat_map line_text (map telling (take l.told-index l.all))
