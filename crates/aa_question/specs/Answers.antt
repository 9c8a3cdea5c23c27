-- What a question is answered.
-- Source: own.
use Rattle.std.specs.Prelude.{ℕ, ◌≡◌, ◌++◌, List, [], codes, true, false, None, Some, option_map, Result, Ok, Err}
use Rattle.aa_text.specs.Visible.{all_visible}
use Rattle.aa_files.specs.Searches.{named_before}
use Rattle.aa_files.specs.Texts.{texts}
use Rattle.aa_command.specs.Setting.{Setting}
use Rattle.aa_command.specs.Printed.{Printed, faults_alone}
use Rattle.aa_check.specs.declared.form.Form.TheVariants.{Json}
use Rattle.aa_check.specs.declared.command.CheckOptions.{CheckOptions}
use Rattle.aa_check.specs.Command.{IsCheckOutput}
use Rattle.aa_ask.specs.declared.asking.Manner.{Manner}
use Rattle.aa_ask.specs.declared.command.AskOptions.{AskOptions}
use Rattle.aa_ask.specs.Command.{IsAskOutput}
use Rattle.aa_diff.specs.declared.options.DiffOptions.{DiffOptions}
use Rattle.aa_diff.specs.declared.options.DiffForm.TheVariants as diff_form
use Rattle.aa_diff.specs.Command.{IsDiffOutput}
use Rattle.aa_question.specs.declared.question.QuestionFault.{QuestionFault}
use Rattle.aa_question.specs.declared.question.QuestionFault.TheVariants.{NoMemory, NotJson, NotObject, Unknown, Bad, UnknownIn, BadIn}
use Rattle.aa_question.specs.Memory.{text_at, lying_at, taken_at}
use Rattle.aa_question.specs.Questions.{member_name, FilesIn, PlacesIn, MannerIn, Asked, DiffAsked}

-- what lies where, and how it is read: the texts of a question are known, and `-` is the text of that name
abbrev pub setting_in : FilesIn → PlacesIn → Setting
setting_in f p = record {
  files = Some (lying_at f.texts);
  taken = Some (taken_at f.texts);
  input = text_at f.texts (codes "-");
  base = p.base;
  folders = named_before p.folders p.base;
  states = p.states;
}

-- the files of a question, checked with `--json`
pub record Checks (q : Asked) (o : CheckOptions) : Type 0 where
  pub files : texts o.files.now ≡ q.files.paths
  pub form : o.form ≡ Json
  pub quiet : o.is_quiet ≡ false

-- what the manner is, without where it lies in memory
pub record IsManner (asked : MannerIn) (m : Manner) : Type 0 where
  pub profile : option_map (λ name. name.now) m.profile ≡ asked.profile
  pub program : option_map (λ path. path.now) m.program ≡ asked.program
  pub owned : m.owned ≡ asked.owned
  pub sequence : m.is_sequence ≡ asked.is_sequence

-- the files of a question, asked with `--json` in its manner
pub record Asks (q : Asked) (o : AskOptions) : Type 0 where
  pub files : texts o.files.now ≡ q.files.paths
  pub from : o.from ≡ None
  pub manner : IsManner q.manner o.manner
  pub json : o.is_json ≡ true
  pub quiet : o.is_quiet ≡ false

-- what `check --json` prints of the files of a question
pub record IsCheckOf (q : Asked) (out : Printed) : Type 0 where
  pub options : CheckOptions
  pub asked : Checks q options
  pub printed : IsCheckOutput (setting_in q.files q.places) options out

-- what `ask --json` prints to the words of a question
pub record IsAskOf (q : Asked) (out : Printed) : Type 0 where
  pub options : AskOptions
  pub asked : Asks q options
  pub printed : IsAskOutput (setting_in q.files q.places) options q.words out

-- the two sides of a question, compared with `--json`
pub record Compares (q : DiffAsked) (o : DiffOptions) : Type 0 where
  pub old : texts o.old.now ≡ q.old.files.paths
  pub new : texts o.new.now ≡ q.new.files.paths
  pub gains : o.wanted.gains ≡ q.gains
  pub profiles : texts o.wanted.profiles.now ≡ q.profiles
  pub names : texts o.wanted.names.now ≡ q.profiles
  pub json : o.form ≡ diff_form.Json
  pub whole : o.skips ≡ false
  pub accepted : o.accepted.now ≡ []
  pub known : o.known ≡ None
  pub clean : o.unclean ≡ false

-- what `diff --json` prints of the two sides of a question
pub record IsDiffOf (q : DiffAsked) (out : Printed) : Type 0 where
  pub options : DiffOptions
  pub asked : Compares q options
  pub printed : IsDiffOutput (setting_in q.old.files q.old.places) (setting_in q.new.files q.new.places) options out

-- the line on an unknown member
unfoldable pub unknown_line : List ℕ → List ℕ
unknown_line name = codes "error: the question has an unknown member: " ++ all_visible name ++ codes "\n"

-- the line on a member that isn't understood
unfoldable pub bad_line : List ℕ → List ℕ
bad_line name = codes "error: the question's member isn't understood: " ++ name ++ codes "\n"

-- why bytes are no question, in a line
unfoldable pub no_question : QuestionFault → List ℕ
no_question NoMemory = codes "no memory\n"
no_question NotJson = codes "error: the question is no JSON\n"
no_question NotObject = codes "error: the question is no object\n"
no_question (Unknown name) = unknown_line name
no_question (Bad member) = bad_line (member_name member)
no_question (UnknownIn side name) = unknown_line (member_name side ++ codes "." ++ name)
no_question (BadIn side member) = bad_line (member_name side ++ codes "." ++ member_name member)

-- the question that bytes are, as `reads` says, is answered so, or the bytes are none: 2
pub data IsAnswer {Q : Type 0} (reads : List ℕ → Result Q QuestionFault) (IsOf : Q → Printed → Type 0) (bytes : List ℕ) (out : Printed) : Type 0 where
  Answered : (q : Q) → reads bytes ≡ Ok q → IsOf q out → IsAnswer reads IsOf bytes out
  Refused : (why : QuestionFault) → reads bytes ≡ Err why → out ≡ faults_alone (no_question why) 2 → IsAnswer reads IsOf bytes out
