use Rattle.std.proofs.Common.{◌≡◌, map, take}
use Rattle.std.specs.List.{flat_map}
use Rattle.aa_findings.specs.Attached.{sharing, tied_in}
use Rattle.aa_findings.proofs.ties.tied_paths.Given as goal

abbrev pub invariant-loop-shared : goal.invariant-loop-shared
invariant-loop-shared l = l.paths.items ≡ flat_map (tied_in l.number) (map sharing (take l.shared-index l.all))
