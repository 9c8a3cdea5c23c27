-- What is kept of the policies so far.
use Rattle.std.specs.Prelude.{◌≡◌, ◌+◌, ◌≤◌, ◌++◌, length, None, vec_len, vec_capacity}
use Rattle.std.specs.List.{All}
use Rattle.aa_model.specs.Lawful.{IsLawful, attachment_patterns}
use Rattle.aa_model.specs.declared.policy.Policy.{Policy}
use Rattle.aa_load.specs.declared.kept.Kept.{Kept}
use Rattle.aa_load.specs.Rows.{Rows}
use Rattle.aa_load.specs.Joined.{rows_of}
use Rattle.aa_load.specs.Faults.{fault_of}
use Rattle.aa_load.specs.Numbers.{AreNumbers}

-- their rows
abbrev pub kept_rows : Kept → Rows
kept_rows k = record { profiles = k.profiles.items; passed_over = k.passed_over.items }

-- they are a policy's, and what is kept beside them is what it says
pub record IsKept (k : Kept) : Type 0 where
  pub lawful : IsLawful k.profiles.items
  pub numbered : AreNumbers k.numbers.entries k.profiles.items
  pub counted : k.attachments ≡ attachment_patterns None k.profiles.items
  pub near : All (λ r. r.profile ≤ 65535) k.passed_over.items

-- a policy can be joined to them: the numbers of its profiles are noted, and there is room
pub record IsReady (k : Kept) (policy : Policy) : Type 0 where
  pub lawful : IsLawful k.profiles.items
  pub near : All (λ r. r.profile ≤ 65535) k.passed_over.items
  pub joinable : fault_of (kept_rows k) (rows_of policy) ≡ None
  pub numbered : AreNumbers k.numbers.entries (k.profiles.items ++ policy.profiles)
  pub profiles_fit : vec_len k.profiles + length policy.profiles ≤ vec_capacity k.profiles
  pub rules_fit : vec_len k.passed_over + length policy.passed_over ≤ vec_capacity k.passed_over
