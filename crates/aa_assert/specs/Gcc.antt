-- What is told of claims as a compiler writes it.
-- Source: the GNU coding standards, "Formatting Error Messages"; own.
use Rattle.std.specs.Prelude.{ℕ, List, [], ◌++◌, flat_map, codes, Bool, Option, Some, None, if◌then◌else◌}
use Rattle.aa_text.specs.Visible.{all_visible}
use Rattle.aa_text.specs.Texts.{where_text}
use Rattle.aa_text.specs.Faults.{where_if}
use Rattle.aa_text.specs.declared.position.PlaceAt.{PlaceAt}
use Rattle.aa_ask.specs.Named.{Named}
use Rattle.aa_ask.specs.Shown.{behind_space}
use Rattle.aa_undecided.specs.Answers.{PlacedFile}
use Rattle.aa_assert.specs.declared.kind.Kind.{Kind}
use Rattle.aa_assert.specs.Findings.{Found, ByRequest, ByWay, Complaining}
use Rattle.aa_assert.specs.Kinds.{kind_name}
use Rattle.aa_assert.specs.Outcomes.{Outcome, Broken, Undecided, Apart, all_outcomes}
use Rattle.aa_assert.specs.Shown.{by_line}
use Rattle.aa_assert.specs.Answers.{Answered}

-- where a line begins
abbrev pub line_place : ℕ → PlaceAt
line_place number = record { line = number; column = 1; byte = 0 }

-- what a rule did
abbrev pub verb_of : Bool → List ℕ
verb_of denies = if denies then codes "denies" else codes "allows"

-- allows LETTERS: RULE
unfoldable pub rule_note : Named → List ℕ
rule_note n = verb_of n.denies ++ behind_space n.letters ++ codes ": " ++ all_visible n.text

-- that a file could decide
unfoldable pub file_note : PlacedFile → List ℕ
file_note f = codes "refused, so that " ++ all_visible f.path ++ codes " could decide it"

-- the rules that decided the request by which a claim is broken
abbrev pub deciders_of : Found → List Named
deciders_of (ByRequest complains t) = t.deciders
deciders_of (ByWay complains w) = []
deciders_of (Complaining name) = []

-- broken: by whom and how
unfoldable pub broken_note : Found → List ℕ
broken_note f = codes "broken: " ++ by_line f

-- only at unclean paths: by whom and how
unfoldable pub apart_note : Found → List ℕ
apart_note f = codes "only at unclean paths: " ++ by_line f

-- [KIND]
unfoldable pub kind_mark : Kind → List ℕ
kind_mark kind = codes " [" ++ kind_name kind ++ codes "]\n"

-- PLACE: note: allows LETTERS: RULE
unfoldable pub gcc_rule : Named → List ℕ
gcc_rule n = where_text n.path n.place ++ codes ": note: " ++ rule_note n ++ codes "\n"

-- PLACE: note: what a skipped file could do, where its fault lies
unfoldable pub gcc_file : PlacedFile → List ℕ
gcc_file f = where_if f.at f.place ++ codes ": note: " ++ file_note f ++ codes "\n"

-- PLACE: error: broken: BY [KIND], and a note for each rule
unfoldable pub gcc_broken : List ℕ → ℕ → Kind → Found → List ℕ
gcc_broken path number kind f =
    where_text path (line_place number) ++ codes ": error: " ++ broken_note f ++ kind_mark kind ++ flat_map gcc_rule (deciders_of f)

-- PLACE: warning: undecided [KIND], and a note for each file
unfoldable pub gcc_undecided : List ℕ → ℕ → Kind → List PlacedFile → List ℕ
gcc_undecided path number kind files =
    where_text path (line_place number) ++ codes ": warning: undecided" ++ kind_mark kind ++ flat_map gcc_file files

-- PLACE: warning: only at unclean paths: BY [KIND], and a note for each rule
unfoldable pub gcc_apart : List ℕ → ℕ → Kind → Found → List ℕ
gcc_apart path number kind f =
    where_text path (line_place number) ++ codes ": warning: " ++ apart_note f ++ kind_mark kind ++ flat_map gcc_rule (deciders_of f)

-- one of these, for the claims of the file at that path
abbrev pub gcc_outcome : List ℕ → Outcome → List ℕ
gcc_outcome path (Broken number kind f) = gcc_broken path number kind f
gcc_outcome path (Undecided number kind files) = gcc_undecided path number kind files
gcc_outcome path (Apart number kind f) = gcc_apart path number kind f

-- each
abbrev pub gcc_answers : List ℕ → List Answered → List ℕ
gcc_answers path answers = flat_map (gcc_outcome path) (all_outcomes answers)
