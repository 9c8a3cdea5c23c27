-- Labels that are called the same, one pair after another.
-- Source: own.
use Rattle.std.specs.Prelude.{◌≡◌, ◌⊎◌, ℕ, List, Some, Contains}
use Rattle.aa_model.specs.declared.policy.Policy.{Policy}
use Rattle.aa_model.specs.declared.policy.Profile.{Profile}
use Rattle.aa_model.specs.declared.label.Label.TheVariants.{Unconfined, Confined}
use Rattle.aa_compile.specs.Labels.{profile_in}
use Rattle.aa_differences.specs.declared.labels.Labels.{Labels}
use Rattle.aa_differences.specs.Same.{SameLabel}

-- labels that are called the same are added behind others
pub record AddsPairs (ps qs : List Policy) (was now : List Labels) : Type 0 where
  pub kept : (x : Labels) → Contains was x → Contains now x
  pub each : (x : Labels) → Contains now x → Contains was x ⊎ SameLabel ps qs x.from x.to

-- where profile n of policy k is there, its label stands beside each label that is called the same
abbrev pub HasPairsOf : List Policy → List Policy → ℕ → ℕ → List Labels → Type 0
HasPairsOf ps qs k n ls = (p : Profile) (j : ℕ) → profile_in ps k n ≡ Some p → SameLabel ps qs (Confined k n) (Confined k j) → Contains ls (record { from = Confined k n; to = Confined k j })

-- so do those of a policy's profiles, and of none
pub record HasPairsAt (ps qs : List Policy) (k : ℕ) (ls : List Labels) : Type 0 where
  pub free : Contains ls (record { from = Unconfined k; to = Unconfined k })
  pub confined : (n : ℕ) → HasPairsOf ps qs k n ls
