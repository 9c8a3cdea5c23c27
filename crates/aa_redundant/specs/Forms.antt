-- What `redundant` prints on standard output, in each form.
-- Source: own.
use Rattle.std.specs.Prelude.{ℕ, List, ◌++◌}
use Rattle.aa_check.specs.declared.form.Form.{Form}
use Rattle.aa_check.specs.declared.form.Form.TheVariants.{Text, Json, Gcc, Sarif}
use Rattle.aa_skipped.specs.Telling.{count_text}
use Rattle.aa_redundant.specs.Told.{Telling, Explained}
use Rattle.aa_command.specs.Untold.{Untelling}
use Rattle.aa_redundant.specs.Shown.{rules_text, gcc_lines}
use Rattle.aa_redundant.specs.Json.{json_rules}
use Rattle.aa_redundant.specs.Sarif.{sarif_rules}
use Rattle.aa_command.specs.Counts.{passed_text}

-- the rules that can go by themselves, in the form that is wanted; text and JSON have besides those that can go together, those that may lead to
-- profiles of skipped files, how many rules decide nothing, and how many files are skipped; JSON and SARIF, of which profiles it can't be told
abbrev pub answers_in : Form → ℕ → ℕ → List Explained → List Untelling → List Telling → List Telling → List ℕ
answers_in Text passed skipped redundant untold undecided going = rules_text redundant undecided going ++ passed_text passed ++ count_text skipped
answers_in Json passed skipped redundant untold undecided going = json_rules passed skipped redundant untold undecided going
answers_in Gcc passed skipped redundant untold undecided going = gcc_lines redundant
answers_in Sarif passed skipped redundant untold undecided going = sarif_rules redundant untold
