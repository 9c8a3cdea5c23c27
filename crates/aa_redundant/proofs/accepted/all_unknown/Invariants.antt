use Rattle.std.proofs.Common.{◌≡◌, map}
use Rattle.std.specs.List.{flat_map}
use Rattle.aa_files.specs.Texts.{slices}
use Rattle.aa_redundant.specs.Told.{explaining}
use Rattle.aa_redundant.specs.Accepted.{unknown_if}
use Rattle.aa_redundant.proofs.accepted.all_unknown.Given as goal

abbrev pub invariant-loop-rule : goal.invariant-loop-rule
invariant-loop-rule l = map explaining l.unknown.items ≡ flat_map (unknown_if (slices l.lines)) (map explaining l.yielded)
