use Rattle.std.proofs.Common.{◌≡◌, take}
use Rattle.std.specs.List.{flat_map}
use Rattle.aa_regions.specs.declared.regions.Region.{Region}
use Rattle.aa_findings.specs.Rows.{rows_at}
use Rattle.aa_findings.proofs.rows.rows_by.Given as goal

abbrev pub invariant-loop-region : goal.invariant-loop-region
invariant-loop-region l = l.rows.items ≡ flat_map (λ (r : Region). rows_at l.profile.files r.witness) (take l.region-index l.regions)
