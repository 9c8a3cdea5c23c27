-- The question that bytes are.
-- Source: the kit's serde_json; own.
use Rattle.std.specs.Prelude.{ℕ, List, [], ◌∷◌, ◌++◌, map, codes, Bool, false, if◌then◌else◌, Option, Some, None, option_map, ⊤, Result, Ok, Err, ◌≡◌}
use Rattle.std.specs.Str.{is_utf8}
use Rattle.serde_json.specs.Data.{Data}
use Rattle.serde_json.specs.Find.{get, as_bool, as_object}
use Rattle.serde_json.specs.Read.{read}
use Rattle.aa_files.specs.Texts.{texts}
use Rattle.aa_question.specs.declared.question.Member.{Member}
use Rattle.aa_question.specs.declared.question.Member.TheVariants as of
use Rattle.aa_question.specs.declared.question.QuestionFault.{QuestionFault}
use Rattle.aa_question.specs.declared.question.QuestionFault.TheVariants.{NoMemory, NotJson, NotObject, Unknown, Bad, UnknownIn, BadIn}
use Rattle.aa_question.specs.declared.question.AskedFiles.{AskedFiles}
use Rattle.aa_question.specs.declared.question.AskedPlaces.{AskedPlaces}
use Rattle.aa_question.specs.declared.question.AskedManner.{AskedManner}
use Rattle.aa_question.specs.declared.question.Question.{Question}
use Rattle.aa_question.specs.declared.question.AskedSide.{AskedSide}
use Rattle.aa_question.specs.declared.question.DiffQuestion.{DiffQuestion}
use Rattle.aa_question.specs.Memory.{Row, put_all, rows_of}
use Rattle.aa_question.specs.Values.{unknown_in, bytes_in, row_in, list_in, or_else, states_in, some_bytes}

-- ---- members

-- the name of a member
abbrev pub member_name : Member → List ℕ
member_name of.Files = codes "files"
member_name of.Includes = codes "includes"
member_name of.Base = codes "base"
member_name of.Folders = codes "folders"
member_name of.States = codes "states"
member_name of.Profile = codes "profile"
member_name of.Program = codes "program"
member_name of.Owned = codes "owned"
member_name of.Sequence = codes "sequence"
member_name of.Words = codes "words"
member_name of.Old = codes "old"
member_name of.New = codes "new"
member_name of.Gains = codes "gains"
member_name of.Profiles = codes "profiles"

-- the names of those of a question to files
abbrev pub member_names : List (List ℕ)
member_names =
    codes "files" ∷ codes "includes" ∷ codes "base" ∷ codes "folders" ∷ codes "states" ∷ codes "profile" ∷ codes "program" ∷ codes "owned" ∷ codes "sequence" ∷ codes "words" ∷ []

-- of a question how two policies differ
abbrev pub diff_names : List (List ℕ)
diff_names = codes "old" ∷ codes "new" ∷ codes "gains" ∷ codes "profiles" ∷ []

-- and of each of its sides
abbrev pub side_names : List (List ℕ)
side_names = codes "files" ∷ codes "includes" ∷ codes "base" ∷ codes "folders" ∷ codes "states" ∷ []

-- ---- steps

infixl 10 ◌>>=◌
abbrev pub ◌>>=◌ : {A B : Type 0} → Result A QuestionFault → (A → Result B QuestionFault) → Result B QuestionFault
(Ok x) >>= f = f x
(Err e) >>= f = Err e

-- what was found, or the fault
abbrev pub needed : {A : Type 0} → QuestionFault → Option A → Result A QuestionFault
needed e None = Err e
needed e (Some x) = Ok x

-- a call was refused for want of memory, or by the fault that the definition gives
abbrev pub Refuses : {Y : Type 0} → QuestionFault → Result Y QuestionFault → Type 0
Refuses NoMemory given = Unit {0}
Refuses NotJson given = given ≡ Err NotJson
Refuses NotObject given = given ≡ Err NotObject
Refuses (Unknown name) given = given ≡ Err (Unknown name)
Refuses (Bad member) given = given ≡ Err (Bad member)
Refuses (UnknownIn side name) given = given ≡ Err (UnknownIn side name)
Refuses (BadIn side member) given = given ≡ Err (BadIn side member)

-- what a call returned, seen by view, is what the definition gives, unless memory ran out
abbrev pub Gives : {X Y : Type 0} → (X → Y) → Result X QuestionFault → Result Y QuestionFault → Type 0
Gives view (Ok x) given = given ≡ Ok (view x)
Gives view (Err e) given = Refuses e given

-- ---- the parts of a question

-- the paths of the files that are asked, and all texts: theirs, and those that may be included
pub record FilesIn : Type 0 where
  pub paths : List (List ℕ)
  pub texts : List Row

-- where includes are searched, and how many states an automaton may have
pub record PlacesIn : Type 0 where
  pub base : List ℕ
  pub folders : List (List ℕ)
  pub states : ℕ

-- how requests are asked
pub record MannerIn : Type 0 where
  pub profile : Option (List ℕ)
  pub program : Option (List ℕ)
  pub owned : Bool
  pub is_sequence : Bool

-- a question
pub record Asked : Type 0 where
  pub files : FilesIn
  pub places : PlacesIn
  pub manner : MannerIn
  pub words : List (List ℕ)

-- one side of a comparison
pub record SideIn : Type 0 where
  pub files : FilesIn
  pub places : PlacesIn

-- a question how two policies differ
pub record DiffAsked : Type 0 where
  pub old : SideIn
  pub new : SideIn
  pub gains : Bool
  pub profiles : List (List ℕ)

-- one at least
abbrev pub some_of : {A : Type 0} → List A → Option (List A)
some_of [] = None
some_of (a ∷ rest) = Some (a ∷ rest)

-- the files are there, one at least
abbrev pub files_in : Data → Result (List Row) QuestionFault
files_in d = needed (Bad of.Files) (or_else [] (list_in row_in) (get (codes "files") d)) >>= λ files. needed (Bad of.Files) (some_of files)

-- the files of a question
unfoldable pub asked_files : Data → Result FilesIn QuestionFault
asked_files d = do
  files ← files_in d
  includes ← needed (Bad of.Includes) (or_else [] (list_in row_in) (get (codes "includes") d))
  Ok (record { paths = map (λ row. row.0) files; texts = put_all (files ++ includes) [] })

-- where includes are searched
unfoldable pub asked_places : Data → Result PlacesIn QuestionFault
asked_places d = do
  base ← needed (Bad of.Base) (or_else (codes "/etc/apparmor.d") bytes_in (get (codes "base") d))
  folders ← needed (Bad of.Folders) (or_else [] (list_in bytes_in) (get (codes "folders") d))
  states ← needed (Bad of.States) (or_else 65535 states_in (get (codes "states") d))
  Ok (record { base = base; folders = folders; states = states })

-- how requests are asked
unfoldable pub asked_manner : Data → Result MannerIn QuestionFault
asked_manner d = do
  profile ← needed (Bad of.Profile) (or_else None some_bytes (get (codes "profile") d))
  program ← needed (Bad of.Program) (or_else None some_bytes (get (codes "program") d))
  owned ← needed (Bad of.Owned) (or_else false as_bool (get (codes "owned") d))
  sequence ← needed (Bad of.Sequence) (or_else false as_bool (get (codes "sequence") d))
  Ok (record { profile = profile; program = program; owned = owned; is_sequence = sequence })

-- what is asked
abbrev pub asked_words : Data → Result (List (List ℕ)) QuestionFault
asked_words d = needed (Bad of.Words) (or_else [] (list_in bytes_in) (get (codes "words") d))

-- ---- the whole

-- nothing is unknown
abbrev pub none_unknown : Option (List ℕ) → Result ⊤ QuestionFault
none_unknown None = Ok tt
none_unknown (Some name) = Err (Unknown name)

-- an object whose members all have one of these names
abbrev pub members_known : List (List ℕ) → Data → Result ⊤ QuestionFault
members_known names d = needed NotObject (as_object d) >>= λ ms. none_unknown (unknown_in names ms)

-- the question that a value is, or the first fault
unfoldable pub asked_in : Data → Result Asked QuestionFault
asked_in d = do
  _ ← members_known member_names d
  files ← asked_files d
  places ← asked_places d
  manner ← asked_manner d
  words ← asked_words d
  Ok (record { files = files; places = places; manner = manner; words = words })

-- a side of a comparison
unfoldable pub asked_side : Data → Result SideIn QuestionFault
asked_side d = do
  _ ← members_known side_names d
  files ← asked_files d
  places ← asked_places d
  Ok (record { files = files; places = places })

-- a fault of the object that a member is
abbrev pub fault_in : Member → QuestionFault → QuestionFault
fault_in side NoMemory = NoMemory
fault_in side NotJson = NotJson
fault_in side NotObject = Bad side
fault_in side (Unknown name) = UnknownIn side name
fault_in side (Bad member) = BadIn side member
fault_in side (UnknownIn other name) = UnknownIn other name
fault_in side (BadIn other member) = BadIn other member

-- what the object that a member is stands for, or its fault
abbrev pub within : {A : Type 0} → Member → Result A QuestionFault → Result A QuestionFault
within side (Ok a) = Ok a
within side (Err e) = Err (fault_in side e)

-- the side that a member is, which must be there
abbrev pub side_of : Member → Option Data → Result SideIn QuestionFault
side_of side None = Err (Bad side)
side_of side (Some d) = within side (asked_side d)

-- whether gains alone are wanted
abbrev pub asked_gains : Data → Result Bool QuestionFault
asked_gains d = needed (Bad of.Gains) (or_else false as_bool (get (codes "gains") d))

-- whose lines are wanted
abbrev pub asked_profiles : Data → Result (List (List ℕ)) QuestionFault
asked_profiles d = needed (Bad of.Profiles) (or_else [] (list_in bytes_in) (get (codes "profiles") d))

-- the question how two policies differ that a value is, or the first fault
unfoldable pub diff_in : Data → Result DiffAsked QuestionFault
diff_in d = do
  _ ← members_known diff_names d
  old ← side_of of.Old (get (codes "old") d)
  new ← side_of of.New (get (codes "new") d)
  gains ← asked_gains d
  profiles ← asked_profiles d
  Ok (record { old = old; new = new; gains = gains; profiles = profiles })

-- the JSON value of bytes that are UTF-8
unfoldable pub json_of : List ℕ → Result Data QuestionFault
json_of bytes = if is_utf8 bytes then needed NotJson (read bytes) else Err NotJson

-- the question that bytes are, or the first fault
abbrev pub question_of : List ℕ → Result Asked QuestionFault
question_of bytes = json_of bytes >>= asked_in

-- the question how two policies differ that bytes are, or the first fault
abbrev pub diff_question_of : List ℕ → Result DiffAsked QuestionFault
diff_question_of bytes = json_of bytes >>= diff_in

-- ---- the same without where it lies in memory

-- files
abbrev pub files_data : AskedFiles → FilesIn
files_data f = record { paths = texts f.paths.items; texts = rows_of f.texts }

-- places
abbrev pub places_data : AskedPlaces → PlacesIn
places_data p = record { base = p.base.items; folders = texts p.folders.items; states = p.states }

-- a manner
abbrev pub manner_data : AskedManner → MannerIn
manner_data m = record {
  profile = option_map (λ b. b.items) m.profile;
  program = option_map (λ b. b.items) m.program;
  owned = m.owned;
  is_sequence = m.is_sequence;
}

-- a question
abbrev pub asked : Question → Asked
asked q = record { files = files_data q.files; places = places_data q.places; manner = manner_data q.manner; words = texts q.words.items }

-- a side
abbrev pub side_data : AskedSide → SideIn
side_data s = record { files = files_data s.files; places = places_data s.places }

-- a question how two policies differ
abbrev pub diff_asked : DiffQuestion → DiffAsked
diff_asked q = record { old = side_data q.old; new = side_data q.new; gains = q.gains; profiles = texts q.profiles.items }
