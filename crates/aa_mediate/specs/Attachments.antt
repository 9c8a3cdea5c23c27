-- Attachments in a list of policies.
-- Source: apparmor.d(5), "Profile Head".
use Rattle.std.specs.Prelude.{ℕ, List, Option}
use Rattle.std.specs.Option.{option_and_then}
use Rattle.std.specs.List.{slice_get}
use Rattle.aa_model.specs.declared.policy.Policy.{Policy}
use Rattle.aa_compile.specs.Attached.{attached}
use Rattle.aa_compile.specs.Transitions.{tops, attached_below}

-- the top-level profile of a policy that is attached to a path, if there is that policy
abbrev pub attached_in : List Policy → ℕ → List ℕ → Option ℕ
attached_in policies k path = option_and_then (λ (p : Policy). attached p.profiles (tops p.profiles) path) (slice_get policies k)

-- the child of a profile that is attached to a path, if there are that policy and that profile
abbrev pub attached_child_in : List Policy → ℕ → ℕ → List ℕ → Option ℕ
attached_child_in policies k parent path = option_and_then (attached_below parent path) (slice_get policies k)
