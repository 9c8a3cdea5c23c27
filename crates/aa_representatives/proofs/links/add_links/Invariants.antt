use Rattle.std.proofs.Common.{◌≡◌, ℕ, List, ◌<◌, Contains, get_or}
use Rattle.aa_representatives.specs.Askable.{IsLink}
use Rattle.aa_representatives.specs.Representatives.{Adds, HasLinks}
use Rattle.aa_representatives.proofs.links.add_links.Given as goal

abbrev pub invariant-loop-link : goal.invariant-loop-link
invariant-loop-link l = record {
  adds : Adds IsLink l.fn.requests.items l.requests.items;
  has : (k : ℕ) (s : List ℕ) → k < l.link-index → get_or l.paths k s ≡ s → (u : List ℕ) → Contains l.paths u → HasLinks s u l.requests.items;
}
