-- Labels and the profiles that they name, in a list of policies.
-- Source: own.
use Rattle.std.specs.Prelude.{ℕ, List, [], codes, Option, Some, if◌then◌else◌, option_map}
use Rattle.std.specs.Option.{option_map_or, option_and_then}
use Rattle.std.specs.List.{slice_get}
use Rattle.std.specs.Str.{bytes_eq}
use Rattle.aa_model.specs.declared.policy.Policy.{Policy}
use Rattle.aa_model.specs.declared.policy.Profile.{Profile}
use Rattle.aa_model.specs.declared.label.Label.{Label}
use Rattle.aa_model.specs.declared.label.Label.TheVariants.{Unconfined, Confined}
use Rattle.aa_compile.specs.Transitions.{named}

-- the policy that decides for a label
abbrev pub policy_number : Label → ℕ
policy_number (Unconfined k) = k
policy_number (Confined k n) = k

-- the profile of that number in the policy of that number
abbrev pub profile_in : List Policy → ℕ → ℕ → Option Profile
profile_in policies k n = option_and_then (λ (p : Policy). slice_get p.profiles n) (slice_get policies k)

-- the profiles of the first policy
abbrev pub first_profiles : List Policy → List Profile
first_profiles policies = option_map_or (λ (p : Policy). p.profiles) (slice_get policies 0) []

-- how a label is called: by the full name of its profile, or unconfined; one that the policies don't have has no name
unfoldable pub label_name : List Policy → Label → List ℕ
label_name policies (Unconfined k) = codes "unconfined"
label_name policies (Confined k n) = option_map_or (λ (p : Profile). p.name) (profile_in policies k n) []

-- the label of that name in a policy: unconfined, or that of the profile with that full name
abbrev pub label_in : ℕ → List ℕ → Policy → Option Label
label_in k name policy =
    if bytes_eq name (codes "unconfined") then Some (Unconfined k)
    else option_map (Confined k) (named policy.profiles name)

-- the label of that name in the policy of that number, if there are both
abbrev pub label_named : List Policy → ℕ → List ℕ → Option Label
label_named policies k name = option_and_then (label_in k name) (slice_get policies k)
