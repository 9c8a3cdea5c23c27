use Rattle.std.proofs.Common.{◌≡◌, map, take}
use Rattle.aa_redundancy.proofs.rows.rows_of.Given as goal

abbrev pub invariant-loop-region : goal.invariant-loop-region
invariant-loop-region l = l.rows.items ≡ map (λ r. r.numbers) (take l.region-index l.regions)
