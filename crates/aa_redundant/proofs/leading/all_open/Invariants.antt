use Rattle.std.proofs.Common.{◌≡◌, take}
use Rattle.std.specs.List.{flat_map}
use Rattle.aa_redundant.specs.Leading.{open_by}
use Rattle.aa_redundant.proofs.leading.all_open.Given as goal

abbrev pub invariant-loop-file : goal.invariant-loop-file
invariant-loop-file l = l.places.items ≡ flat_map (open_by l.compiled.profiles l.numbers) (take l.file-index l.skipped)
