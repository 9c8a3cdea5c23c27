-- Two rules of a profile that conflict.
-- Source: apparmor.d(5), "Access Modes"; own.
use Rattle.std.specs.Prelude.{◌≡◌, ◌⊎◌, ℕ, ◌<◌, List, Bool, true, not, Some, IsTrue, Contains, filter, length}
use Rattle.std.specs.List.{slice_get}
use Rattle.aa_pattern.specs.declared.pattern.Pattern.{Pattern}
use Rattle.aa_model.specs.declared.rule.FileRule.{FileRule}
use Rattle.aa_compile.specs.Patterns.{is_literal}
use Rattle.aa_compile.specs.FileRules.{some_match, says_how, SayDifferently, Hit, IsConflict}
use Rattle.aa_compile.specs.Rows.{patterns_of}

-- the pattern isn't literal
abbrev pub is_no_literal : Pattern → Bool
is_no_literal p = not (is_literal p)

-- both match the text by patterns of that sort
abbrev pub BothMatch : (Pattern → Bool) → FileRule → FileRule → List ℕ → Type 0
BothMatch sort a b text = IsTrue (some_match sort text a.patterns) × IsTrue (some_match sort text b.patterns)

-- the rules say differently how the text is executed, both by literal patterns or both by others
abbrev pub ClashAt : FileRule → FileRule → List ℕ → Type 0
ClashAt a b text = SayDifferently a b × (BothMatch is_literal a b text ⊎ BothMatch is_no_literal a b text)

-- the rules with these numbers conflict at the text, each by one of its patterns
abbrev pub Conflict : List FileRule → ℕ → ℕ → List ℕ → Type 0
Conflict rules first second text = (a : Hit) × (b : Hit) × (slice_get rules first ≡ Some a.rule) × (slice_get rules second ≡ Some b.rule) × IsConflict rules a b text

-- the patterns of the rules that say how a program is executed
abbrev pub executing : List FileRule → List Pattern
executing rules = patterns_of (filter says_how rules)

-- the patterns of those of the first k rules are there, and beside each stands the number of its rule
pub record AreOwners (rules : List FileRule) (k : ℕ) (patterns : List Pattern) (owners : List ℕ) : Type 0 where
  pub many : length owners ≡ length patterns
  pub each : (i : ℕ) (r : FileRule) (p : Pattern) → i < k → slice_get rules i ≡ Some r → says_how r ≡ true → Contains r.patterns p
      → (n : ℕ) × (slice_get patterns n ≡ Some p) × (slice_get owners n ≡ Some i)

-- the rule conflicts with a later one that has a pattern among these
pub record ConflictsLater (rules : List FileRule) (owners numbers : List ℕ) (one : ℕ) (text : List ℕ) : Type 0 where
  pub number : ℕ
  pub other : ℕ
  pub among : Contains numbers number
  pub owner : slice_get owners number ≡ Some other
  pub later : one < other
  pub conflict : Conflict rules one other text

-- the rule of the pattern with that number does so
pub record OwnerConflicts (rules : List FileRule) (owners numbers : List ℕ) (number : ℕ) (text : List ℕ) : Type 0 where
  pub one : ℕ
  pub owner : slice_get owners number ≡ Some one
  pub later : ConflictsLater rules owners numbers one text

-- a rule with a pattern among these does so
abbrev pub SomeConflict : List FileRule → List ℕ → List ℕ → List ℕ → Type 0
SomeConflict rules owners numbers text = (number : ℕ) × Contains numbers number × OwnerConflicts rules owners numbers number text
