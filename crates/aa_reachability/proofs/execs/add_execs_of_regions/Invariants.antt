use Rattle.std.proofs.Common.{◌≡◌, ℕ, ◌<◌, get_or}
use Rattle.aa_regions.specs.declared.regions.Region.{Region}
use Rattle.aa_representatives.specs.Askable.{IsExec}
use Rattle.aa_representatives.specs.Representatives.{Adds, HasExecs}
use Rattle.aa_reachability.proofs.execs.add_execs_of_regions.Given as goal

abbrev pub invariant-loop-region : goal.invariant-loop-region
invariant-loop-region l = record {
  adds : Adds IsExec l.fn.requests.items l.requests.items;
  has : (k : ℕ) (r : Region) → k < l.region-index → get_or l.regions k r ≡ r → HasExecs r.witness l.requests.items;
}
