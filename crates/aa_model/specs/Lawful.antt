-- What every policy keeps.
-- Source: own.
use Rattle.std.specs.Prelude.{ℕ, ◌≡◌, ◌<◌, ◌≤◌, ◌==◌, List, map, length, codes, Bool, true, false, Option, Some, None, is_some, option_and_then, bit_and, if◌then◌else◌}
use Rattle.std.specs.List.{All, IsDistinct, sum_by, slice_get}
use Rattle.std.specs.Option.{option_eq}
use Rattle.std.specs.Bool.{nat_eq}
use Rattle.std.specs.Str.{bytes_eq}
use Rattle.aa_pattern.specs.Limits.{most_patterns}
use Rattle.aa_base.specs.declared.perms.Perms.{Perms}
use Rattle.aa_model.specs.declared.rule.FileRule.{FileRule}
use Rattle.aa_model.specs.declared.policy.Profile.{Profile}

-- the permission to execute is among them
abbrev pub has_exec : Perms → Bool
has_exec p = bit_and p.0 64 == 64

-- A rule without deny permits execution exactly where it says how, and one with deny doesn't say how.
pub record IsLawfulRule (r : FileRule) : Type 0 where
  pub allowed : r.deny ≡ false → has_exec r.perms ≡ is_some r.exec
  pub denied : r.deny ≡ true → is_some r.exec ≡ false

-- the full names in order
abbrev pub names_of : List Profile → List (List ℕ)
names_of profiles = map (λ p. p.name) profiles

-- how many patterns the profile's file rules have
abbrev pub file_patterns : Profile → ℕ
file_patterns p = sum_by (λ r. length r.patterns) p.files

-- that is its parent, or it has none where none is given
abbrev pub has_parent : Option ℕ → Profile → Bool
has_parent parent p = option_eq nat_eq p.parent parent

-- the attachment patterns of a profile, if that is its parent, or if it has none where none is given
abbrev pub attachments_with : Option ℕ → Profile → ℕ
attachments_with parent p = if has_parent parent p then length p.attachments else 0

-- how many attachment patterns the profiles below a parent have, or the top-level profiles
abbrev pub attachment_patterns : Option ℕ → List Profile → ℕ
attachment_patterns parent profiles = sum_by (attachments_with parent) profiles

-- the counts and lengths that no policy goes past, but for its attachments
pub record IsWithinCounts (profiles : List Profile) : Type 0 where
  pub few : length profiles ≤ 4096
  pub short_names : All (λ p. length p.name ≤ 1024) profiles
  pub few_patterns : All (λ p. file_patterns p ≤ most_patterns) profiles

-- the same, and how many attachments there are
pub record IsWithinLimits (profiles : List Profile) : Type 0 where
  pub counts : IsWithinCounts profiles
  pub few_attachments : (parent : Option ℕ) → attachment_patterns parent profiles ≤ most_patterns

-- a parent is an earlier top-level profile
abbrev pub ParentsComeFirst : List Profile → Type 0
ParentsComeFirst profiles = (k n : ℕ) (p : Profile) → slice_get profiles k ≡ Some p → p.parent ≡ Some n
    → (n < k) × (option_and_then (λ q. q.parent) (slice_get profiles n) ≡ None)

-- what every policy keeps: limits, parents, distinct names, and which rules say how programs are executed
pub record IsLawful (profiles : List Profile) : Type 0 where
  pub limits : IsWithinLimits profiles
  pub distinct : IsDistinct bytes_eq (names_of profiles)
  pub confined : All (λ p. bytes_eq p.name (codes "unconfined") ≡ false) profiles
  pub parents : ParentsComeFirst profiles
  pub rules : All (λ p. All IsLawfulRule p.files) profiles
