use Rattle.std.proofs.Common.{◌≡◌, ℕ, List, ◌<◌, get_or}
use Rattle.aa_representatives.specs.Askable.{IsLink}
use Rattle.aa_representatives.specs.Representatives.{Adds, HasLinks}
use Rattle.aa_representatives.proofs.links.add_links_at.Given as goal

abbrev pub invariant-loop-target : goal.invariant-loop-target
invariant-loop-target l = record {
  adds : Adds IsLink l.fn.requests.items l.requests.items;
  has : (k : ℕ) (s : List ℕ) → k < l.target-index → get_or l.targets k s ≡ s → HasLinks l.link s l.requests.items;
}
