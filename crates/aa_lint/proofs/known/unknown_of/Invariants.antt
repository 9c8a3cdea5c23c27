use Rattle.std.proofs.Common.{◌≡◌, map}
use Rattle.std.specs.List.{flat_map}
use Rattle.aa_files.specs.Texts.{slices}
use Rattle.aa_lint.specs.Telling.{telling}
use Rattle.aa_lint.specs.Known.{unknown_if}
use Rattle.aa_lint.proofs.known.unknown_of.Given as goal

abbrev pub invariant-loop-told : goal.invariant-loop-told
invariant-loop-told l = map telling l.unknown.items ≡ flat_map (unknown_if (slices l.lines)) (map telling l.yielded)
