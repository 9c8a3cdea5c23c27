-- What is kept of a profile that is there.
use Rattle.std.proofs.Common.{◌≡◌, ◌⊎◌, ℕ, suc, ◌+◌, ◌<◌, ◌≤◌, Some, None, List, [], ◌∷◌, ◌++◌, length, map, slice_get, get_or, refl, ⊎_elim, arith, length-append}
use Rattle.std.proofs.lemmas.List.{length-map}
use Rattle.std.proofs.lemmas.Option.{slice_get_cases}
use Rattle.aa_pattern.specs.declared.pattern.Pattern.{Pattern}
use Rattle.aa_model.specs.declared.policy.Profile.{Profile}
use Rattle.aa_model.specs.declared.rule.FileRule.{FileRule}
use Rattle.aa_compile.specs.Rows.{patterns_of}
use Rattle.aa_compile.specs.Matched.{owners_from}

-- there is a profile of that number
pub profile_there : (profiles : List Profile) (n : ℕ) → n < length profiles → (p : Profile) × (slice_get profiles n ≡ Some p)
profile_there profiles n lt =
    ⊎_elim
    (λ (x : (p : Profile) × (n < length profiles) × (slice_get profiles n ≡ Some p) × (get_or profiles n p ≡ p)). (x.0, x.2))
    (λ (x : (length profiles ≤ n) × (slice_get profiles n ≡ None)). absurd (omega (arith, lt, x.0)))
    (slice_get_cases profiles n).1

-- each pattern has its owner
pub many_owners : (n : ℕ) (rules : List FileRule) → length (owners_from n rules) ≡ length (patterns_of rules)
many_owners n [] = refl
many_owners n (r ∷ rs) =
    omega (arith, length-append (map (λ (p : Pattern). n) r.patterns) (owners_from (suc n) rs), length-append r.patterns (patterns_of rs), length-map r.patterns (λ (p : Pattern). n), many_owners (suc n) rs)
