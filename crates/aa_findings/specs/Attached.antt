-- Attachments that tie.
-- Source: apparmor.d(5), "Profile Head"; own.
use Rattle.std.specs.Prelude.{◌≡◌, ℕ, ◌==◌, not, List, [], ◌∷◌, ◌++◌, length, map, flat_map, filter, Bool, false, Option, Some, None, is_some, if◌then◌else◌}
use Rattle.std.specs.List.{list_any}
use Rattle.std.specs.Str.{bytes_eq}
use Rattle.aa_pattern.specs.declared.pattern.Pattern.{Pattern}
use Rattle.aa_pattern.specs.Matching.{is_match}
use Rattle.aa_model.specs.declared.policy.Profile.{Profile}
use Rattle.aa_regions.specs.declared.regions.Region.{Region}
use Rattle.aa_regions.specs.Regions.{ArePathRegions}
use Rattle.aa_compile.specs.declared.attach.Attachment.{Attachment}
use Rattle.aa_compile.specs.Attached.{attachment_of, attachments_by, pattern_of, strongest}
use Rattle.aa_compile.specs.Gathered.{picked}
use Rattle.aa_findings.specs.declared.attached.Shared.{Shared}
use Rattle.aa_findings.specs.declared.finding.Finding.{Finding}
use Rattle.aa_findings.specs.declared.finding.Kind.TheVariants.{Tie}
use Rattle.aa_findings.specs.declared.finding.Subject.TheVariants.{Attachments}
use Rattle.aa_findings.specs.Places.{has}
use Rattle.aa_findings.specs.Shortest.{nearest}

-- the patterns of the attachments of the profiles with these numbers
abbrev pub patterns_at : List Profile → List ℕ → List Pattern
patterns_at profiles group = map pattern_of (attachments_by profiles group)

-- what is kept of each
abbrev pub kept_at : List Profile → List ℕ → List Attachment
kept_at profiles group = map attachment_of (attachments_by profiles group)

-- the profiles of attachments
abbrev pub numbers_of : List Attachment → List ℕ
numbers_of as' = map (λ (a : Attachment). a.profile) as'

-- the profiles with these numbers whose attachments match the path, none more strongly
abbrev pub strong_at : List Profile → List ℕ → List ℕ → List ℕ
strong_at profiles group path = numbers_of (strongest (map attachment_of (filter (λ h. is_match h.1.items.items path) (attachments_by profiles group))))

-- the first of some profiles, if it is another than profile n
abbrev pub first_other : ℕ → List ℕ → Option ℕ
first_other n [] = None
first_other n (m ∷ rest) = if m == n then None else Some m

-- so where profile n is one of them too
abbrev pub tied_by : ℕ → List ℕ → Option ℕ
tied_by n numbers = if has n numbers then first_other n numbers else None

-- they aren't all one
abbrev pub are_several : List ℕ → Bool
are_several [] = false
are_several (n ∷ rest) = list_any (λ k. not (k == n)) rest

-- a path, and the profiles whose attachments match it, none more strongly
pub record Sharing : Type 0 where
  pub path : List ℕ
  pub profiles : List ℕ

-- the same of what the code keeps
abbrev pub sharing : Shared → Sharing
sharing s = record { path = s.path; profiles = s.profiles.items }

-- those of a path
abbrev pub shared_at : List Profile → List ℕ → List ℕ → Sharing
shared_at profiles group path = record { path = path; profiles = strong_at profiles group path }

-- those of a region, by the numbers of the attachments
abbrev pub shared_in : List Attachment → Region → Sharing
shared_in kept r = record { path = r.witness; profiles = numbers_of (strongest (picked kept r.numbers)) }

-- where they aren't all one
abbrev pub shared_if : Sharing → List Sharing
shared_if s = if are_several s.profiles then s ∷ [] else []

-- those of the paths of regions at which they aren't
abbrev pub shared_by : List Profile → List ℕ → List Region → List Sharing
shared_by profiles group regions = flat_map (λ (r : Region). shared_if (shared_at profiles group r.witness)) regions

-- the path, if an earlier profile is attached as strongly there as profile n
abbrev pub tied_in : ℕ → Sharing → List (List ℕ)
tied_in n s = if is_some (tied_by n s.profiles) then s.path ∷ [] else []

-- so at a path
abbrev pub tied_path : List Profile → List ℕ → ℕ → List ℕ → List (List ℕ)
tied_path profiles group n path = tied_in n (shared_at profiles group path)

-- so at the paths of regions
abbrev pub tied_paths : List Profile → List ℕ → ℕ → List Region → List (List ℕ)
tied_paths profiles group n regions = flat_map (λ (r : Region). tied_path profiles group n r.witness) regions

-- that profile n ties at a path, with that earlier profile
abbrev pub tie_at : Option ℕ → List ℕ → List Finding
tie_at other path = record { kind = Tie; subject = Attachments; other = other; path = Some path } ∷ []

-- with the earlier profile, if there is such a path
abbrev pub ties_at : List Profile → List ℕ → ℕ → Option (List ℕ) → List Finding
ties_at profiles group n None = []
ties_at profiles group n (Some path) = tie_at (tied_by n (strong_at profiles group path)) path

-- with the first of the shortest of these paths
abbrev pub ties_along : List Profile → List ℕ → ℕ → List (List ℕ) → List Finding
ties_along profiles group n paths = ties_at profiles group n (nearest paths (length paths))

-- the earlier profile that is attached as strongly at the first of these that have the path
abbrev pub other_at : ℕ → List Sharing → List ℕ → Option ℕ
other_at n [] path = None
other_at n (s ∷ rest) path = if bytes_eq s.path path then tied_by n s.profiles else other_at n rest path

-- that profile n ties at a path, with the earlier profile among these
abbrev pub ties_among : ℕ → List Sharing → Option (List ℕ) → List Finding
ties_among n shared None = []
ties_among n shared (Some path) = tie_at (other_at n shared path) path

-- with the first of the shortest of these paths
abbrev pub ties_of : ℕ → List Sharing → List Finding
ties_of n shared = ties_among n shared (nearest (flat_map (tied_in n) shared) (length (flat_map (tied_in n) shared)))

-- that profile n, which is one of these, ties is added, by regions that stand for all paths that can be asked for
pub record AddsTie (profiles : List Profile) (group : List ℕ) (n : ℕ) (was now : List Finding) : Type 0 where
  pub regions : List Region
  pub are : ArePathRegions (patterns_at profiles group) regions
  pub added : now ≡ was ++ ties_along profiles group n (tied_paths profiles group n regions)
