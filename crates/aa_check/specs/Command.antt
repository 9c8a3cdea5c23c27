-- What `check` prints.
-- Source: own.
use Rattle.std.specs.Prelude.{ℕ, List, Bool, ◌≡◌, ◌==◌, [], if◌then◌else◌}
use Rattle.aa_files.specs.Texts.{texts}
use Rattle.aa_check.specs.declared.report.CheckReport.{CheckReport}
use Rattle.aa_check.specs.Printed.{report_text, faults_text}
use Rattle.aa_check.specs.Jsons.{json_report}
use Rattle.aa_check.specs.Gcc.{gcc_report}
use Rattle.aa_check.specs.Sarif.{sarif_report}
use Rattle.aa_check.specs.declared.form.Form.{Form}
use Rattle.aa_check.specs.declared.form.Form.TheVariants.{Text, Json, Gcc, Sarif}
use Rattle.aa_command.specs.Setting.{Setting}
use Rattle.aa_check.specs.Checked.{IsChecked}
use Rattle.aa_check.specs.declared.command.CheckOptions.{CheckOptions}
use Rattle.aa_command.specs.Printed.{Printed}

-- a report in the form that is wanted; to be quiet leaves out what is found of each file, and warnings
abbrev pub answers_in : Form → Bool → CheckReport → List ℕ
answers_in Text quiet r = if quiet then [] else report_text r
answers_in Json quiet r = json_report r
answers_in Gcc quiet r = gcc_report quiet r
answers_in Sarif quiet r = sarif_report r

-- only what people read has faults apart
abbrev pub faults_in : Form → Bool → CheckReport → List ℕ
faults_in Text quiet r = faults_text quiet r
faults_in _ quiet r = []

-- a report as it is wanted; 3 where something can't be read, else 1 where something is refused
abbrev pub check_printed : CheckOptions → CheckReport → Printed
check_printed o r = record {
  answers = answers_in o.form o.is_quiet r;
  faults = faults_in o.form o.is_quiet r;
  refusal = [];
  status = if r.is_unread then 3 else (if r.refused == 0 then 0 else 1);
}

-- what `check` prints is a report of its files
pub record IsCheckOutput (s : Setting) (o : CheckOptions) (out : Printed) : Type 0 where
  pub report : CheckReport
  pub checked : IsChecked s (texts o.files.now) report
  pub printed : out ≡ check_printed o report
