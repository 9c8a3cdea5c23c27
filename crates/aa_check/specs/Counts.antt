-- What is counted of a file's profiles.
-- Source: own.
use Rattle.std.specs.Prelude.{ℕ, ◌≡◌, ◌==◌, List, [], ◌∷◌, map, codes, length, filter, count_by, not, Some, slice_get}
use Rattle.std.specs.Str.{bytes_eq}
use Rattle.aa_base.specs.declared.fault.Spot.{Spot}
use Rattle.aa_model.specs.declared.policy.Policy.{Policy}
use Rattle.aa_model.specs.declared.policy.Profile.{Profile}
use Rattle.aa_model.specs.declared.policy.PassedOver.{PassedOver}
use Rattle.aa_model.specs.Lawful.{file_patterns}
use Rattle.aa_compile.specs.Rows.{patterns_of}
use Rattle.aa_compile.specs.States.{HasStates}
use Rattle.aa_text.specs.Places.{place_in}
use Rattle.aa_files.specs.declared.unit.Unit as unit
use Rattle.aa_files.specs.Numbers.{text_in}
use Rattle.aa_check.specs.declared.lines.LineCount.{LineCount}
use Rattle.aa_check.specs.declared.report.Count.{Count}
use Rattle.aa_check.specs.declared.report.ProfileReport.{ProfileReport}
use Rattle.aa_check.specs.declared.report.Passed.{Passed}

-- the line of a byte of a unit's file, by the number that places have
abbrev pub line_in : unit.Unit → ℕ → ℕ → ℕ
line_in u file byte = (place_in (text_in u file) byte).line

-- the line of a place
abbrev pub line_at : unit.Unit → Spot → ℕ
line_at u at = line_in u at.file at.byte

-- the line that is kept is that of the place that is kept
abbrev pub IsLine : unit.Unit → LineCount → Type 0
IsLine u count = count.line ≡ line_in u count.file count.byte

-- how many of the rules that are passed over the profile of that number has
abbrev pub passed_in : List PassedOver → ℕ → ℕ
passed_in rules number = count_by (λ r. r.profile == number) rules

-- what is counted of the profile of that number
pub record IsCounted (u : unit.Unit) (rules : List PassedOver) (number : ℕ) (p : Profile) (r : ProfileReport) : Type 0 where
  pub name : r.name.items ≡ p.name
  pub line : r.line ≡ line_at u p.at
  pub files : r.files ≡ length p.files
  pub caps : r.caps ≡ length p.caps
  pub nets : r.nets ≡ length p.nets
  pub patterns : r.patterns ≡ file_patterns p
  pub states : HasStates (patterns_of p.files) r.states
  pub passed_over : r.passed_over ≡ passed_in rules number

-- the reports so far are those of the first profiles
abbrev pub EachIsCounted : unit.Unit → List PassedOver → List Profile → List ProfileReport → Type 0
EachIsCounted u rules profiles reports =
    (n : ℕ) (p : Profile) (r : ProfileReport) → slice_get profiles n ≡ Some p → slice_get reports n ≡ Some r → IsCounted u rules n p r

-- the keywords, each once, in the order in which they first come
abbrev pub distinct : List (List ℕ) → List (List ℕ)
distinct [] = []
distinct (k ∷ ks) = k ∷ filter (λ j. not (bytes_eq k j)) (distinct ks)

-- the keywords of rules that are passed over
abbrev pub keywords_of : List PassedOver → List (List ℕ)
keywords_of rules = map (λ r. r.kind) rules

-- how many of the rules have that keyword
abbrev pub times : List PassedOver → List ℕ → ℕ
times rules keyword = count_by (λ r. bytes_eq keyword r.kind) rules

-- a keyword, and how many rules have it
abbrev pub counted_keyword : List PassedOver → List ℕ → List ℕ × ℕ
counted_keyword rules keyword = (keyword, times rules keyword)

-- each keyword once, in the order in which they first come, with how many rules have it
abbrev pub keyword_counts : List PassedOver → List (List ℕ × ℕ)
keyword_counts rules = map (counted_keyword rules) (distinct (keywords_of rules))

-- a keyword with its count, without where it lies in memory
abbrev pub passed_data : Passed → List ℕ × ℕ
passed_data p = (p.keyword.items, p.count)

-- each profile of a policy is counted, in order, and each keyword of its rules that are passed over
pub record CountsPolicy (u : unit.Unit) (policy : Policy) (profiles : List ProfileReport) (passed : List Passed) : Type 0 where
  pub many : length profiles ≡ length policy.profiles
  pub each : EachIsCounted u policy.passed_over policy.profiles profiles
  pub keywords : map passed_data passed ≡ keyword_counts policy.passed_over

-- one of the counts of a profile: its key in JSON, the words behind it in a line, and how many there are
pub record Told : Type 0 where
  pub key : List ℕ
  pub words : List ℕ
  pub number : ℕ

-- a count, without where its words lie in memory
abbrev pub told : Count → Told
told c = record { key = c.key.now; words = c.words.now; number = c.number }

-- so many, told by that key and by these words
abbrev pub counted : List ℕ → List ℕ → ℕ → Told
counted key words number = record { key = key; words = words; number = number }

-- what is counted of a profile: its rules on files, on capabilities and on sockets, the patterns of its file rules, the states of their
-- automaton, and its rules that are passed over
abbrev pub counts_of : ProfileReport → List Told
counts_of p =
    counted (codes "files") (codes " file") p.files ∷ counted (codes "caps") (codes " capability") p.caps
    ∷ counted (codes "nets") (codes " network") p.nets ∷ counted (codes "patterns") (codes " patterns") p.patterns
    ∷ counted (codes "states") (codes " states") p.states ∷ counted (codes "passed_over") (codes " passed over") p.passed_over ∷ []
