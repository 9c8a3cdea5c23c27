use Rattle.std.proofs.Common.{◌≡◌, ℕ, ◌<◌, get_or}
use Rattle.aa_regions.specs.declared.regions.Region.{Region}
use Rattle.aa_representatives.specs.Askable.{IsChange}
use Rattle.aa_representatives.specs.Representatives.{Adds, HasChange}
use Rattle.aa_representatives.proofs.changes.add_changes.Given as goal

abbrev pub invariant-loop-region : goal.invariant-loop-region
invariant-loop-region l = record {
  adds : Adds IsChange l.fn.requests.items l.requests.items;
  has : (k : ℕ) (r : Region) → k < l.region-index → get_or l.regions k r ≡ r → HasChange r.witness l.requests.items;
}
