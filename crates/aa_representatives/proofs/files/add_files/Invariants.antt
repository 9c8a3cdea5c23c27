use Rattle.std.proofs.Common.{◌≡◌, ℕ, ◌<◌, get_or}
use Rattle.aa_regions.specs.declared.regions.Region.{Region}
use Rattle.aa_representatives.specs.Askable.{IsFile}
use Rattle.aa_representatives.specs.Representatives.{Adds, HasFiles}
use Rattle.aa_representatives.proofs.files.add_files.Given as goal

abbrev pub invariant-loop-region : goal.invariant-loop-region
invariant-loop-region l = record {
  adds : Adds IsFile l.fn.requests.items l.requests.items;
  has : (k : ℕ) (r : Region) → k < l.region-index → get_or l.regions k r ≡ r → HasFiles r.witness 128 l.requests.items;
}
