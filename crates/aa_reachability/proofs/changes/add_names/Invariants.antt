use Rattle.std.proofs.Common.{◌≡◌, ℕ, ◌<◌, get_or}
use Rattle.aa_model.specs.declared.policy.Profile.{Profile}
use Rattle.aa_representatives.specs.Askable.{IsChange}
use Rattle.aa_representatives.specs.Representatives.{Adds, HasChange}
use Rattle.aa_reachability.proofs.changes.add_names.Given as goal

abbrev pub invariant-loop-profile : goal.invariant-loop-profile
invariant-loop-profile l = record {
  adds : Adds IsChange l.fn.requests.items l.requests.items;
  has : (k : ℕ) (p : Profile) → k < l.profile-index → get_or l.profiles k p ≡ p → HasChange p.name l.requests.items;
}
