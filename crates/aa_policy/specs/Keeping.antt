-- What is kept of profiles while they are read: all of them, or their names alone from where a limit is passed.
-- Source: own.
use Rattle.std.specs.Prelude.{ℕ, ◌+◌, ◌≡◌, ◌<◌, ◌≤◌, List, [], ◌++◌, length, Option, option_and_then, true, false}
use Rattle.std.specs.List.{All, AllZip, sum_by}
use Rattle.aa_pattern.specs.Limits.{most_patterns}
use Rattle.aa_pattern.specs.declared.pattern.Pattern.{Pattern}
use Rattle.aa_model.specs.declared.rule.FileRule.{FileRule}
use Rattle.aa_model.specs.declared.policy.Profile.{Profile}
use Rattle.aa_model.specs.Lawful.{IsWithinLimits, file_patterns, attachment_patterns}
use Rattle.aa_policy.specs.declared.expansion.BodyRules.{BodyRules}
use Rattle.aa_policy.specs.declared.limits.KeptRules.{KeptRules}
use Rattle.aa_policy.specs.declared.limits.ReadProfile.{ReadProfile}
use Rattle.aa_policy.specs.declared.limits.KeptProfiles.{KeptProfiles}
use Rattle.aa_policy.specs.declared.tree.ProfileTree.{ProfileTree}

-- how many patterns the rules have
abbrev pub patterns_in : List FileRule → ℕ
patterns_in rules = sum_by (λ r. length r.patterns) rules

-- what is kept of the file rules that a profile's body spells: all of them, unless it is noticed that they have more patterns than a profile may have; what is kept has no more
pub record KeepsRules (spelled : List FileRule) (kept : KeptRules) : Type 0 where
  pub whole : kept.over ≡ false → kept.rules.items ≡ spelled
  pub noticed : kept.over ≡ true → most_patterns < patterns_in spelled
  pub room : patterns_in kept.rules.items + kept.room ≡ most_patterns

-- the names of the profiles stand at the same place and are the same
pub record IsNamedAs (p q : Profile) : Type 0 where
  pub at : q.at ≡ p.at
  pub name : q.name ≡ p.name

-- what is kept of a profile that is spelled: all of it, unless it is noticed that its file rules have more patterns than a profile may have
pub record KeepsProfile (spelled : Profile) (read : ReadProfile) : Type 0 where
  pub named : IsNamedAs spelled read.profile
  pub whole : read.over ≡ false → read.profile ≡ spelled
  pub few_patterns : read.over ≡ false → file_patterns spelled ≤ most_patterns
  pub noticed : read.over ≡ true → most_patterns < file_patterns spelled

-- the profile of these parts
abbrev pub read_profile : ProfileTree → List ℕ → List Pattern → BodyRules → ReadProfile
read_profile tree name attachments rules = record {
  profile = record {
    at = tree.head.title.at;
    name = name;
    parent = option_and_then (λ p. p.number) tree.parent;
    attachments = attachments;
    complain = tree.head.flags.complain;
    audit = tree.head.flags.audit;
    files = rules.read.files.rules.items;
    caps = rules.caps.items;
    nets = rules.nets.items;
    changes = rules.read.changes.items;
  };
  over = rules.read.files.over;
}

-- a policy within its limits may have the profile beside those, as far as its file rules let it
pub record FitsBeside (profiles : List Profile) (p : Profile) : Type 0 where
  pub few : length profiles < 4096
  pub short_name : length p.name ≤ 1024
  pub few_attachments : attachment_patterns p.parent profiles + length p.attachments ≤ most_patterns

-- below each parent there is room for that many attachment patterns more
abbrev pub HasRoom : List Profile → ℕ → Type 0
HasRoom profiles room = (parent : Option ℕ) → attachment_patterns parent profiles + room ≤ most_patterns

-- of the profile no pattern is kept, of an attachment or of a file rule
pub record HasNoPatterns (p : Profile) : Type 0 where
  pub no_attachments : p.attachments ≡ []
  pub no_files : p.files ≡ []

-- profiles within the limits, and behind them such as have no patterns
pub record IsBounded (profiles : List Profile) : Type 0 where
  pub before : List Profile
  pub behind : List Profile
  pub cut : profiles ≡ before ++ behind
  pub within : IsWithinLimits before
  pub empty : All HasNoPatterns behind

-- what is kept of the profiles that are spelled: all of them, unless it is noticed that a limit is passed; then their names, and no more patterns than the limits let a policy have
pub record KeepsProfiles (spelled : List Profile) (kept : KeptProfiles) : Type 0 where
  pub named : AllZip IsNamedAs spelled kept.profiles.items
  pub whole : kept.over ≡ false → kept.profiles.items ≡ spelled
  pub within : kept.over ≡ false → IsWithinLimits spelled
  pub noticed : kept.over ≡ true → IsWithinLimits spelled → ⊥
  pub bounded : IsBounded kept.profiles.items
  pub room : kept.over ≡ false → HasRoom spelled kept.room
