-- What `lint` prints on standard output, in each form.
-- Source: own.
use Rattle.std.specs.Prelude.{ℕ, List, ◌++◌}
use Rattle.aa_check.specs.declared.form.Form.{Form}
use Rattle.aa_check.specs.declared.form.Form.TheVariants.{Text, Json, Gcc, Sarif}
use Rattle.aa_skipped.specs.Telling.{count_text}
use Rattle.aa_lint.specs.Lint.{AllTold}
use Rattle.aa_lint.specs.Shown.{lines_text, gcc_lines}
use Rattle.aa_lint.specs.Jsons.{json_lint}
use Rattle.aa_lint.specs.Sarif.{sarif_lint}

-- what is found, in the form that is wanted; text and JSON tell how many files are skipped
abbrev pub answers_in : Form → ℕ → AllTold → List ℕ
answers_in Text skipped all = lines_text all.told ++ count_text skipped
answers_in Json skipped all = json_lint skipped all.told all.untold
answers_in Gcc skipped all = gcc_lines all.told
answers_in Sarif skipped all = sarif_lint all.told all.untold
