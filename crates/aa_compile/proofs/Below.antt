-- The child of a profile that is attached to a path, by whether the profile is there.
use Rattle.std.proofs.Common.{◌≡◌, ℕ, ◌<◌, ◌≤◌, List, length, get_or, Option, Some, None, sym, ap, ◌∙◌, ⊎_elim, arith}
use Rattle.std.specs.List.{slice_get}
use Rattle.std.specs.Option.{option_and_then}
use Rattle.std.proofs.lemmas.Option.{slice_get_cases, slice_get_past}
use Rattle.aa_model.specs.declared.policy.Policy.{Policy}
use Rattle.aa_model.specs.declared.policy.Profile.{Profile}
use Rattle.aa_compile.specs.Attached.{attached}
use Rattle.aa_compile.specs.Transitions.{children, attached_below}

abbrev below : ℕ → List ℕ → Policy → Option Profile → Option ℕ
below parent path policy found = option_and_then (λ (q : Profile). attached policy.profiles (children policy.profiles parent) path) found

pub there : (parent : ℕ) (path : List ℕ) (policy : Policy) (p : Profile) → slice_get policy.profiles parent ≡ Some p → attached_below parent path policy ≡ attached policy.profiles (children policy.profiles parent) path
there parent path policy p at = ap (below parent path policy) at

pub missing : (parent : ℕ) (path : List ℕ) (policy : Policy) → length policy.profiles ≤ parent → attached_below parent path policy ≡ None
missing parent path policy past = ap (below parent path policy) (slice_get_past policy.profiles parent past)

pub within : (parent : ℕ) (path : List ℕ) (policy : Policy) (found : Option ℕ) → parent < length policy.profiles
    → ((p : Profile) → slice_get policy.profiles parent ≡ Some p → found ≡ attached policy.profiles (children policy.profiles parent) path) → found ≡ attached_below parent path policy
within parent path policy found lt is =
    ⊎_elim
    (λ (x : (p : Profile) × (parent < length policy.profiles) × (slice_get policy.profiles parent ≡ Some p) × (get_or policy.profiles parent p ≡ p)). is x.0 x.2 ∙ sym (there parent path policy x.0 x.2))
    (λ (x : (length policy.profiles ≤ parent) × (slice_get policy.profiles parent ≡ None)). absurd (omega (arith, lt, x.0)))
    (slice_get_cases policy.profiles parent).1
