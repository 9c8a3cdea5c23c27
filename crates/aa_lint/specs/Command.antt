-- What `lint` prints.
-- Source: own.
use Rattle.std.specs.Prelude.{◌≡◌, ℕ, ◌==◌, List, [], ◌∷◌, ◌++◌, length, codes, Option, Some, None, option_map, Err, MatchBool, if◌then◌else◌}
use Rattle.aa_base.specs.declared.unread.Unread.{Unread}
use Rattle.aa_files.specs.Texts.{texts}
use Rattle.aa_files.specs.FilesData.{IsMain, IsMainText}
use Rattle.aa_text.specs.Visible.{all_visible}
use Rattle.aa_load.specs.UnitPolicy.{limit_of}
use Rattle.aa_check.specs.declared.form.Form.{Form}
use Rattle.aa_command.specs.declared.decided.Decided.{Decided}
use Rattle.aa_command.specs.Setting.{Setting}
use Rattle.aa_command.specs.Printed.{Printed, faults_alone}
use Rattle.aa_command.specs.Refusals.{SaysUnread}
use Rattle.aa_command.specs.Policies.{IsPrintedFor}
use Rattle.aa_skipped.specs.declared.skipped.Skipped.{Skipped}
use Rattle.aa_skipped.specs.Policies.{IsPrintedOf}
use Rattle.aa_lint.specs.declared.command.LintOptions.{LintOptions}
use Rattle.aa_text.specs.Nearest.{nearest_name}
use Rattle.aa_lint.specs.Names.{all_names, is_name}
use Rattle.aa_lint.specs.Telling.{Telling}
use Rattle.aa_command.specs.Untold.{Untelling, untold_lines}
use Rattle.aa_lint.specs.Forms.{answers_in}
use Rattle.aa_report.specs.Lines.{lines_in}
use Rattle.aa_lint.specs.Known.{unknown, gone_among}
use Rattle.aa_lint.specs.Lint.{AllTold, AreTold}
use Rattle.aa_command.specs.Counts.{count_of}

-- 5 where files are skipped, which aren't looked at
abbrev pub open_status : List Skipped → ℕ
open_status [] = 0
open_status (file ∷ files) = 5

-- 1 where of a profile nothing can be found, else 4 where something is, and else that
abbrev pub status_of : List Untelling → List Telling → List Skipped → ℕ
status_of untold told skipped = if length untold == 0 then (if length told == 0 then open_status skipped else 4) else 1

-- what is found but for accepted lines, of which profiles nothing can be, and which of these lines aren't found
abbrev pub lint_printed : Form → List (List ℕ) → List Skipped → AllTold → Printed
lint_printed form lines skipped all = record {
  answers = answers_in form (length skipped) (unknown lines all);
  faults = untold_lines all.untold ++ gone_among lines all;
  refusal = [];
  status = status_of all.untold (unknown lines all).told skipped;
}

-- what is printed of the policy that files are beside those that are skipped, but for these lines
pub record IsLintOf (states : ℕ) (o : LintOptions) (lines : List (List ℕ)) (skipped : List Skipped) (d : Decided) (out : Printed) : Type 0 where
  pub all : AllTold
  pub are : AreTold d (limit_of states) (texts o.except.now) (count_of d.policies.now) all
  pub is : out ≡ lint_printed o.form lines skipped all

-- the name that may have been meant, if there is one
abbrev pub meant_part : Option (List ℕ) → List ℕ
meant_part None = []
meant_part (Some name) = codes "; write " ++ name

-- what is said of a name that no finding has
unfoldable pub no_name : List ℕ → List ℕ
no_name name = codes "error: no finding is called so: " ++ all_visible name ++ meant_part (nearest_name all_names name) ++ codes "\n"

-- the first of these names that no finding has, if there is one
abbrev pub first_unknown : List (List ℕ) → Option (List ℕ)
first_unknown [] = None
first_unknown (name ∷ rest) = if is_name name then first_unknown rest else Some name

-- what is printed by the files that are named, but for the lines of a text: by those that aren't refused, where these are to be skipped,
-- and else by all
abbrev pub IsLintBut : Setting → LintOptions → List (List ℕ) → Printed → Type 0
IsLintBut s o lines out =
    MatchBool o.skips (IsPrintedOf s (texts o.files.now) (IsLintOf s.states o lines) out) (IsPrintedFor s (texts o.files.now) (IsLintOf s.states o lines []) out)

-- so by the file with findings that are accepted, or that it can't be read
pub data IsLintBy (s : Setting) (o : LintOptions) (path : List ℕ) (out : Printed) : Type 0 where
  CantRead : (why : Unread) → IsMain s.files s.input path (Err why) → SaysUnread path why out → IsLintBy s o path out
  Accepted : (text : List ℕ) → IsMainText s.files s.input path text → IsLintBut s o (lines_in text) out → IsLintBy s o path out

-- where there is such a file
abbrev pub IsLintIf : Setting → LintOptions → Option (List ℕ) → Printed → Type 0
IsLintIf s o None out = IsLintBut s o [] out
IsLintIf s o (Some path) out = IsLintBy s o path out

-- a name that no finding has is refused, and nothing is read; without one, what is found is printed
abbrev pub IsOutputBy : Setting → LintOptions → Option (List ℕ) → Printed → Type 0
IsOutputBy s o (Some name) out = out ≡ faults_alone (no_name name) 2
IsOutputBy s o None out = IsLintIf s o (option_map (λ path. path.now) o.known) out

-- what `lint` prints
abbrev pub IsLintOutput : Setting → LintOptions → Printed → Type 0
IsLintOutput s o out = IsOutputBy s o (first_unknown (texts o.except.now)) out
