use Rattle.std.proofs.Common.{◌≡◌, take, List, ℕ}
use Rattle.std.specs.List.{IsDistinct, list_any}
use Rattle.std.specs.Str.{bytes_eq}
use Rattle.aa_model.specs.Lawful.{names_of}
use Rattle.aa_policy.proofs.limits.check_names.Given as goal

abbrev pub invariant-loop-profile : goal.invariant-loop-profile
invariant-loop-profile l = record {
  distinct : IsDistinct bytes_eq (names_of (take l.profile-index l.profiles));
  known : (q : List ℕ) → list_any (λ k. bytes_eq q k.now) l.names.keys ≡ list_any (bytes_eq q) (names_of (take l.profile-index l.profiles));
}
