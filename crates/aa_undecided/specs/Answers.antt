-- What is answered where files are skipped: the verdict of the files that are read, or that the skipped ones could change it.
-- Source: own.
use Rattle.std.specs.Prelude.{ℕ, List, [], ◌∷◌, ◌++◌, ◌||◌, length, map, filter, codes, Bool, false, not, if◌then◌else◌, is_some, nat_lt, Option, Some, None, option_map, Ok, Err}
use Rattle.std.specs.Option.{option_map_or}
use Rattle.std.specs.List.{slice_get}
use Rattle.aa_model.specs.declared.policy.Policy.{Policy}
use Rattle.aa_model.specs.declared.policy.Profile.{Profile}
use Rattle.aa_model.specs.declared.label.Label.{Label}
use Rattle.aa_model.specs.declared.label.Label.TheVariants.{Unconfined}
use Rattle.aa_model.specs.declared.request.Request.{Request}
use Rattle.aa_compile.specs.FileRules.{is_nil}
use Rattle.aa_compile.specs.Labels.{label_named}
use Rattle.aa_mediate.specs.Reply.{reply}
use Rattle.aa_notation.specs.Kinds.{request_in, word_text}
use Rattle.aa_command.specs.declared.decided.Decided.{Decided}
use Rattle.aa_skipping.specs.declared.unread.Unread.{Unread}
use Rattle.aa_skipping.specs.Names.{is_doubtful}
use Rattle.aa_skipping.specs.Undecided.{undecided}
use Rattle.aa_skipped.specs.declared.skipped.Skipped.{Skipped}
use Rattle.aa_ask.specs.declared.asking.Manner.{Manner}
use Rattle.aa_ask.specs.Told.{Told, told, verdict_on}
use Rattle.aa_ask.specs.Asked.{Outcome, name_in_digits, opening, requests_of}
use Rattle.aa_text.specs.declared.position.PlaceAt.{PlaceAt}
use Rattle.aa_undecided.specs.declared.answered.SkippedAt.{SkippedAt}
use Rattle.aa_undecided.specs.declared.answered.Answered.{Answered}
use Rattle.aa_undecided.specs.declared.answered.Answered.TheVariants as code

-- a skipped file: its path, and where its fault lies
pub record PlacedFile : Type 0 where
  pub path : List ℕ
  pub at : List ℕ
  pub place : Option PlaceAt

-- so of a file
abbrev pub placed : Skipped → PlacedFile
placed k = record { path = k.path.items; at = k.fault.path.items; place = k.fault.place }

-- the same without where it lies in memory
abbrev pub placed_data : SkippedAt → PlacedFile
placed_data f = record { path = f.path.items; at = f.at.items; place = f.place }

-- so of files
abbrev pub placed_all : List SkippedAt → List PlacedFile
placed_all files = map placed_data files

-- a request that is undecided: its word, and the skipped files that could decide it; none where an earlier request of the task is undecided
pub record DoubtData : Type 0 where
  pub word : List ℕ
  pub files : List PlacedFile

-- an answer without where it lies in memory
pub data AnswerData : Type 0 where
  Settled : Told → AnswerData
  Undecided : DoubtData → AnswerData

-- the same of what is answered
abbrev pub answered : Answered → AnswerData
answered (code.Decided v) = Settled (told v)
answered (code.Undecided k) = Undecided (record { word = k.word.items; files = placed_all k.files.items })

-- ---- which files could decide

-- profiles of a skipped file could change the answer
abbrev pub could_decide : List Profile → Label → Request → Skipped → Bool
could_decide profiles label request k = undecided profiles k.unread label request

-- the files of which that is so
abbrev pub files_among : List Skipped → Label → Request → Policy → List PlacedFile
files_among skipped label request policy = map placed (filter (could_decide policy.profiles label request) skipped)

-- the same by the one policy
unfoldable pub files_deciding : List Policy → List Skipped → Label → Request → List PlacedFile
files_deciding policies skipped label request = option_map_or (files_among skipped label request) (slice_get policies 0) []

-- ---- requests

-- an answer by the files that could change it: where there are none, it is the verdict
abbrev pub answer_by : List ℕ → Told → List PlacedFile → AnswerData
answer_by word verdict [] = Settled verdict
answer_by word verdict (file ∷ files) = Undecided (record { word = word; files = file ∷ files })

-- the answer to a request of a task with that label
unfoldable pub answer_on : Decided → List Skipped → Label → Request → AnswerData
answer_on d skipped label request = answer_by (word_text request) (verdict_on d label request) (files_deciding d.policies.now skipped label request)

-- the label behind a request, where it is decided
abbrev pub label_by : Label → List PlacedFile → Option Label
label_by label [] = Some label
label_by label (file ∷ files) = None

-- the same of a task with that label
unfoldable pub label_after : Decided → List Skipped → Label → Request → Option Label
label_after d skipped label request = label_by ((reply d.policies.now label request).label) (files_deciding d.policies.now skipped label request)

-- the answer to a request of a task, of whose label it is known or not what it is
abbrev pub next_answer : Decided → List Skipped → Option Label → Request → AnswerData
next_answer d skipped None request = Undecided (record { word = word_text request; files = [] })
next_answer d skipped (Some label) request = answer_on d skipped label request

-- the task's label behind it
abbrev pub next_label : Decided → List Skipped → Option Label → Request → Option Label
next_label d skipped None request = None
next_label d skipped (Some label) request = label_after d skipped label request

-- one after another: behind one that is undecided all are
unfoldable pub in_turn : Decided → List Skipped → Option Label → List Request → List AnswerData
in_turn d skipped label [] = []
in_turn d skipped label (r ∷ rs) = next_answer d skipped label r ∷ in_turn d skipped (next_label d skipped label r) rs

-- ---- under which label is asked

-- a name may be that of a profile of the file, or what it is in hexadecimal digits
abbrev pub may_be_called : List Profile → List ℕ → Option (List ℕ) → Skipped → Bool
may_be_called profiles name digits k = is_doubtful profiles k.unread name || option_map_or (is_doubtful profiles k.unread) digits false

-- the files of which that is so
abbrev pub files_naming_in : List Skipped → List ℕ → Policy → List PlacedFile
files_naming_in skipped name policy = map placed (filter (may_be_called policy.profiles name (name_in_digits name)) skipped)

-- the files that could have the profile of that name, where none that is read has it
unfoldable pub files_naming : List Policy → List Skipped → List ℕ → List PlacedFile
files_naming policies skipped name =
    if is_some (label_named policies 0 name) then []
    else option_map_or (files_naming_in skipped name) (slice_get policies 0) []

-- the files whose profiles could be attached to the program of that path
unfoldable pub files_attaching : List Policy → List Skipped → List ℕ → List PlacedFile
files_attaching policies skipped path = option_map_or (files_deciding policies skipped (Unconfined 0)) (request_in false (codes "x:" ++ path)) []

-- a file may hold a profile
abbrev pub may_hold_one : Skipped → Bool
may_hold_one k = k.unread.others || not (is_nil k.unread.heads)

-- the files of which that is so
abbrev pub holders : List Skipped → List PlacedFile
holders skipped = map placed (filter may_hold_one skipped)

-- the files that may hold the only profile, or one beside it; where two are read there is no only one
abbrev pub files_holding : ℕ → List Skipped → List PlacedFile
files_holding read skipped = if nat_lt 1 read then [] else holders skipped

-- the files that could decide under which label is asked: by the name, else by the program, else of the only profile
abbrev pub files_opening_by : Decided → List Skipped → Option (List ℕ) → Option (List ℕ) → List PlacedFile
files_opening_by d skipped (Some name) program = files_naming d.policies.now skipped name
files_opening_by d skipped None (Some path) = files_attaching d.policies.now skipped path
files_opening_by d skipped None None = files_holding (length d.places.now) skipped

-- the same by the manner of asking
abbrev pub files_opening : Decided → List Skipped → Manner → List PlacedFile
files_opening d skipped m = files_opening_by d skipped (option_map (λ name. name.now) m.profile) (option_map (λ path. path.now) m.program)

-- ---- all

-- a request whose task isn't known for these files
abbrev pub undecided_by : List PlacedFile → Request → AnswerData
undecided_by files request = Undecided (record { word = word_text request; files = files })

-- each request by itself at a label, or all as those of one task
abbrev pub answers_at : Decided → List Skipped → Bool → Label → List Request → List AnswerData
answers_at d skipped is_sequence label rs = if is_sequence then in_turn d skipped (Some label) rs else map (answer_on d skipped label) rs

-- the same, where label and requests aren't refused
abbrev pub answers_of : Decided → List Skipped → Bool → Outcome Label → Outcome (List Request) → Outcome (List AnswerData)
answers_of d skipped is_sequence (Err line) rs = Err line
answers_of d skipped is_sequence (Ok label) (Err line) = Err line
answers_of d skipped is_sequence (Ok label) (Ok rs) = Ok (answers_at d skipped is_sequence label rs)

-- all are undecided
abbrev pub none_answered : List PlacedFile → Outcome (List Request) → Outcome (List AnswerData)
none_answered files (Err line) = Err line
none_answered files (Ok rs) = Ok (map (undecided_by files) rs)

-- by the files that could decide under which label is asked
abbrev pub answers_by : Decided → List Skipped → Manner → Outcome (List Request) → List PlacedFile → Outcome (List AnswerData)
answers_by d skipped m rs [] = answers_of d skipped m.is_sequence (opening d m) rs
answers_by d skipped m rs (file ∷ files) = none_answered (file ∷ files) rs

-- the answers to some words
unfoldable pub answers : Decided → List Skipped → Manner → List (List ℕ) → Outcome (List AnswerData)
answers d skipped m words = answers_by d skipped m (requests_of m.owned words) (files_opening d skipped m)
