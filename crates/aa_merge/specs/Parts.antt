-- What reports say, and what they say together.
-- Source: own.
use Rattle.std.specs.Prelude.{ℕ, List, [], ◌∷◌, ◌++◌, Option, Some, None, option_map}
use Rattle.aa_model.specs.declared.request.Request.{Request}
use Rattle.aa_notation.specs.Kinds.{word_text}
use Rattle.aa_logs.specs.declared.line.Then.{Then}
use Rattle.aa_log.specs.Counted.{Counted}
use Rattle.aa_log.specs.Printed.{key_text}
use Rattle.aa_log.specs.Joined.{added, joined}

-- a request as a report has it: what became of it, whose it is, what it is, and the path and the line of the first that asks it
pub record Asking : Type 0 where
  pub became : Then
  pub profile : List ℕ
  pub request : Request
  pub path : List ℕ
  pub line : ℕ

-- lines that ask nothing, as a report has them: the order and the name of their reason, and the path and the line of the first
pub record Passed : Type 0 where
  pub order : ℕ
  pub name : List ℕ
  pub path : List ℕ
  pub line : ℕ

-- how many lines aren't understood, and the path and the line of the first
pub record Unclear : Type 0 where
  pub count : ℕ
  pub path : List ℕ
  pub line : ℕ

-- what a report says: the requests and the lines that ask nothing in its order, each of these lines where they are listed, and the counts
pub record Report : Type 0 where
  pub requests : List (Counted Asking)
  pub skipped : List (Counted Passed)
  pub each : Option (List (Counted Passed))
  pub lines : ℕ
  pub asking : ℕ
  pub other : ℕ
  pub left_out : Option ℕ
  pub unclear : Option Unclear

-- requests that are printed alike are counted together
abbrev pub asking_key : Asking → List ℕ
asking_key a = key_text a.became a.profile (word_text a.request)

-- lines that ask nothing are counted by their reasons
abbrev pub passed_key : Passed → List ℕ
passed_key p = p.order ∷ p.name

-- both lists, one behind the other, where both are there
abbrev pub both_lists : {A : Type 0} → Option (List A) → Option (List A) → Option (List A)
both_lists None b = None
both_lists (Some a) None = None
both_lists (Some a) (Some b) = Some (a ++ b)

-- the sum, where both are there
abbrev pub both_counts : Option ℕ → Option ℕ → Option ℕ
both_counts None b = None
both_counts (Some a) None = None
both_counts (Some a) (Some b) = Some (added a b)

-- lines that aren't understood in either, the first in the first where it has some
abbrev pub both_unclear : Option Unclear → Option Unclear → Option Unclear
both_unclear None b = b
both_unclear (Some a) None = Some a
both_unclear (Some a) (Some b) = Some (record { count = added a.count b.count; path = a.path; line = a.line })

-- what a report says and a later one
unfoldable pub merged : Report → Report → Report
merged a b = record {
  requests = joined asking_key a.requests b.requests;
  skipped = joined passed_key a.skipped b.skipped;
  each = both_lists a.each b.each;
  lines = added a.lines b.lines;
  asking = added a.asking b.asking;
  other = added a.other b.other;
  left_out = both_counts a.left_out b.left_out;
  unclear = both_unclear a.unclear b.unclear;
}

-- nothing yet, where each line that asks nothing is listed and lines were chosen as in that report
abbrev pub nothing_as : Report → Report
nothing_as r = record {
  requests = [];
  skipped = [];
  each = option_map (λ each. []) r.each;
  lines = 0;
  asking = 0;
  other = 0;
  left_out = option_map (λ n. 0) r.left_out;
  unclear = None;
}

-- what a report says and those behind it, one after another
unfoldable pub all_behind : Report → List Report → Report
all_behind m [] = m
all_behind m (r ∷ rs) = all_behind (merged m r) rs

-- what reports say together
abbrev pub all_merged : Report → List Report → Report
all_merged first rs = all_behind (nothing_as first) (first ∷ rs)
