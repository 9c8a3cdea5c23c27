use Rattle.std.proofs.Common.{◌≡◌, map, take}
use Rattle.aa_redundancy.specs.Plain.{change_row}
use Rattle.aa_redundancy.proofs.names.rows_of_names.Given as goal

abbrev pub invariant-loop-region : goal.invariant-loop-region
invariant-loop-region l = l.rows.items ≡ map (λ r. change_row l.rules r.witness) (take l.region-index l.regions)
