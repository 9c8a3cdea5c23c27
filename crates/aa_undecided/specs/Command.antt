-- What `ask` prints where files that are refused are skipped.
-- Source: own.
use Rattle.std.specs.Prelude.{ℕ, ◌≡◌, ◌==◌, ◌<◌, ◌≤◌, List, [], ◌∷◌, length, codes, Bool, false, true, not, if◌then◌else◌, Option, Some, None, is_some, option_map, Ok, Err}
use Rattle.std.specs.List.{list_any}
use Rattle.aa_files.specs.Texts.{texts}
use Rattle.aa_command.specs.declared.decided.Decided.{Decided}
use Rattle.aa_command.specs.Setting.{Setting}
use Rattle.aa_command.specs.Printed.{Printed, faults_alone}
use Rattle.aa_skipped.specs.declared.skipped.Skipped.{Skipped}
use Rattle.aa_skipped.specs.Policies.{IsPrintedOf}
use Rattle.aa_ask.specs.declared.command.AskOptions.{AskOptions}
use Rattle.aa_ask.specs.Asked.{Outcome}
use Rattle.aa_ask.specs.Unattached.{opening_warning}
use Rattle.aa_ask.specs.Command.{IsAskedFrom}
use Rattle.aa_undecided.specs.Answers.{PlacedFile, AnswerData, Settled, Undecided, files_opening, answers}
use Rattle.aa_undecided.specs.Shown.{answers_text}
use Rattle.aa_undecided.specs.Jsons.{json_answers}

-- answers as they are wanted: as JSON, as text, or not at all
abbrev pub answers_shown : AskOptions → List AnswerData → List ℕ
answers_shown o as' = if o.is_json then json_answers as' else (if o.is_quiet then [] else answers_text (is_some o.manner.program) as')

-- the request is denied
abbrev pub is_denied : AnswerData → Bool
is_denied (Settled t) = not t.granted
is_denied (Undecided k) = false

-- the request is undecided
abbrev pub is_open : AnswerData → Bool
is_open (Settled t) = false
is_open (Undecided k) = true

-- 4 where one is denied, else 5 where one is undecided
abbrev pub status_by : List AnswerData → ℕ
status_by as' = if list_any is_denied as' then 4 else (if list_any is_open as' then 5 else 0)

-- what is warned of, unless it isn't known for some files under which label is asked
abbrev pub warning_unless : List PlacedFile → List ℕ → List ℕ
warning_unless [] warning = warning
warning_unless (file ∷ files) warning = []

-- the answers behind what is warned of; or the line that refuses
abbrev pub part_printed : AskOptions → List ℕ → Outcome (List AnswerData) → Printed
part_printed o warning (Err line) = faults_alone line 1
part_printed o warning (Ok as') = record { answers = answers_shown o as'; faults = warning; refusal = []; status = status_by as' }

-- what is printed of these words, where the files that are read are this policy
abbrev pub words_answered : AskOptions → List (List ℕ) → List Skipped → Decided → Printed
words_answered o words skipped d =
    part_printed o (warning_unless (files_opening d skipped o.manner) (opening_warning d.policies.now o.manner)) (answers d skipped o.manner words)

-- the same, or that nothing is asked
abbrev pub part_asked : AskOptions → List (List ℕ) → List Skipped → Decided → Printed
part_asked o words skipped d = if length words == 0 then faults_alone (codes "error: ask takes at least one word\n") 2 else words_answered o words skipped d

-- what is printed where these words are asked: the answers to them by the files that aren't skipped, or why these are no policy
abbrev pub IsPartAsked : Setting → AskOptions → List (List ℕ) → Printed → Type 0
IsPartAsked s o words out = IsPrintedOf s (texts o.files.now) (λ skipped d printed. printed ≡ part_asked o words skipped d) out

-- the words asked are those of a file, or those given
abbrev pub IsPartAskedWith : Setting → AskOptions → Option (List ℕ) → List (List ℕ) → Printed → Type 0
IsPartAskedWith s o None words out = IsPartAsked s o words out
IsPartAskedWith s o (Some path) words out = IsAskedFrom s (IsPartAsked s o) path words out

-- What `ask` prints where files that are refused are skipped, with these words on the command line. More than 65,536 of them are refused
-- before anything is read.
pub data IsPartOutput (s : Setting) (o : AskOptions) (words : List (List ℕ)) (out : Printed) : Type 0 where
  TooMany : 65536 < length words → out ≡ faults_alone (codes "error: ask takes at most 65536 words\n") 2 → IsPartOutput s o words out
  Few : length words ≤ 65536 → IsPartAskedWith s o (option_map (λ path. path.now) o.from) words out → IsPartOutput s o words out
