use Rattle.std.proofs.Common.{◌≡◌, ◌++◌, take, map}
use Rattle.std.specs.Prelude.{flat_map}
use Rattle.aa_diff.specs.Untold.{large}
use Rattle.aa_diff.specs.UntoldShown.{large_line}
use Rattle.aa_diff.proofs.untold_shown.push_large_lines.Given as goal

abbrev pub invariant-loop-one : goal.invariant-loop-one
invariant-loop-one l = l.out.items ≡ l.initial.out.items ++ flat_map large_line (map large (take l.one-index l.too_large))
