-- Which profile is attached to a path.
-- Source: apparmor.d(5), "Profile Head"; own.
use Rattle.std.specs.Prelude.{◌≡◌, ◌≤◌, ℕ, suc, max, List, [], ◌∷◌, map, length, Bool, false, ◌==◌, if◌then◌else◌, filter, Option, Some, None}
use Rattle.std.specs.Option.{option_and_then, option_map_or}
use Rattle.std.specs.List.{list_any, list_all, take_while, slice_get, filter_map, flat_map}
use Rattle.aa_pattern.specs.declared.pattern.Pattern.{Pattern}
use Rattle.aa_pattern.specs.Globs.{is_byte}
use Rattle.aa_model.specs.declared.policy.Profile.{Profile}
use Rattle.aa_model.specs.Lawful.{has_parent}
use Rattle.aa_pattern.specs.Matching.{is_match}
use Rattle.aa_pattern.specs.Limits.{most_patterns}
use Rattle.aa_auto.specs.Pairs.{IsBuilt}
use Rattle.aa_auto.specs.Tables.{Table, IsText, list_number, place_of}
use Rattle.aa_compile.specs.declared.attach.Attachment.{Attachment}
use Rattle.aa_compile.specs.Gathered.{picked}
use Rattle.aa_compile.specs.Patterns.{is_literal}

-- how many bytes stand at the front
abbrev pub front_of : Pattern → ℕ
front_of p = length (take_while is_byte p.items.items)

-- what is kept of an attachment's pattern
abbrev pub attachment_by : ℕ → Pattern → Attachment
attachment_by profile p = record { profile = profile; literal = is_literal p; front = front_of p }

-- the longest literal front
abbrev pub longest : List Attachment → ℕ
longest [] = 0
longest (a ∷ rest) = max a.front (longest rest)

-- a literal one, where one has to be literal, or else one with so long a front
abbrev pub is_strong : Bool → ℕ → Attachment → Bool
is_strong literal front a = if literal then a.literal else a.front == front

-- the literal ones, or else those with the longest literal front
abbrev pub strongest : List Attachment → List Attachment
strongest as' = filter (is_strong (list_any (λ a. a.literal) as') (longest as')) as'

-- the number that they all are
abbrev pub common : List ℕ → Option ℕ
common [] = None
common (n ∷ rest) = if list_all (λ k. k == n) rest then Some n else None

-- the profile of the strongest ones, if it is one profile
abbrev pub attached_by : List Attachment → Option ℕ
attached_by as' = common (map (λ a. a.profile) (strongest as'))

-- a pattern beside its profile's number
abbrev pub at_number : ℕ → Pattern → ℕ × Pattern
at_number n p = (n, p)

-- the attachments of the profile with that number
abbrev pub attachments_at : List Profile → ℕ → List Pattern
attachments_at profiles n = option_map_or (λ (p : Profile). p.attachments) (slice_get profiles n) []

-- the attachments of the profiles with these numbers, each with its profile's
abbrev pub attachments_by : List Profile → List ℕ → List (ℕ × Pattern)
attachments_by profiles numbers = flat_map (λ n. map (at_number n) (attachments_at profiles n)) numbers

-- the pattern
abbrev pub pattern_of : ℕ × Pattern → Pattern
pattern_of h = h.1

-- what is kept of it
abbrev pub attachment_of : ℕ × Pattern → Attachment
attachment_of h = attachment_by h.0 h.1

-- an automaton, an answer for each of its lists, and of how many attachments it is
pub record AnswerTable : Type 0 where
  pub table : Table
  pub answers : List (Option ℕ)
  pub count : ℕ

-- the answer that a path leads to
abbrev pub answer_at : AnswerTable → List ℕ → Option ℕ
answer_at t path = option_map_or (λ (a : Option ℕ). a) (slice_get t.answers (list_number t.table (place_of t.table path))) None

-- the profile that each list of numbers attaches
abbrev pub answers_by : List Attachment → List (List ℕ) → List (Option ℕ)
answers_by as' lists = map (λ list. attached_by (picked as' list)) lists

-- which of the profiles with these numbers is attached to the path
abbrev pub attached : List Profile → List ℕ → List ℕ → Option ℕ
attached profiles numbers path = attached_by (map attachment_of (filter (λ h. is_match h.1.items.items path) (attachments_by profiles numbers)))

-- the numbers, from k on, of the profiles below a parent, or of the top-level profiles
abbrev pub numbers_below : Option ℕ → ℕ → List Profile → List ℕ
numbers_below parent k [] = []
numbers_below parent k (p ∷ rest) = if has_parent parent p then k ∷ numbers_below parent (suc k) rest else numbers_below parent (suc k) rest

-- the attachment with that number is literal
abbrev pub literal_at : List Attachment → ℕ → Bool
literal_at as' n = option_map_or (λ (a : Attachment). a.literal) (slice_get as' n) false

-- the literal front of the attachment with that number
abbrev pub front_at : List Attachment → ℕ → ℕ
front_at as' n = option_map_or (λ (a : Attachment). a.front) (slice_get as' n) 0

-- the profile of a strong attachment
abbrev pub profile_if : Bool → ℕ → List Attachment → ℕ → Option ℕ
profile_if literal front as' n = option_and_then (λ (a : Attachment). if is_strong literal front a then Some a.profile else None) (slice_get as' n)

-- the profiles of those attachments that are literal, or have that front
abbrev pub profiles_of : Bool → ℕ → List Attachment → List ℕ → List ℕ
profiles_of literal front as' numbers = filter_map (profile_if literal front as') numbers

-- each path leads to the profile that is attached to it
abbrev pub Attaches : List Profile → List ℕ → AnswerTable → Type 0
Attaches profiles numbers t = (path : List ℕ) → IsText path → answer_at t path ≡ attached profiles numbers path

-- the automaton is that of the attachments of the profiles with these numbers, which are so many, and no more than can be matched together
pub record AreAttached (profiles : List Profile) (numbers : List ℕ) (t : AnswerTable) : Type 0 where
  pub built : IsBuilt (map pattern_of (attachments_by profiles numbers)) t.table
  pub counted : t.count ≡ length (map pattern_of (attachments_by profiles numbers))
  pub few : t.count ≤ most_patterns
