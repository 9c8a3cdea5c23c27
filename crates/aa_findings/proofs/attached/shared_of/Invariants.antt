use Rattle.std.proofs.Common.{◌≡◌, map, take}
use Rattle.std.specs.List.{flat_map}
use Rattle.aa_regions.specs.declared.regions.Region.{Region}
use Rattle.aa_findings.specs.Attached.{sharing, shared_if, shared_in}
use Rattle.aa_findings.proofs.attached.shared_of.Given as goal

abbrev pub invariant-loop-region : goal.invariant-loop-region
invariant-loop-region l = map sharing l.list.items ≡ flat_map (λ (r : Region). shared_if (shared_in l.kept r)) (take l.region-index l.regions)
