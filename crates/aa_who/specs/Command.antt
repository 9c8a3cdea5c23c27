-- What `who` prints.
-- Source: own.
use Rattle.std.specs.Prelude.{◌≡◌, ℕ, ◌==◌, ◌<◌, ◌≤◌, List, [], ◌++◌, length, map, flat_map, codes, Bool, MatchBool, if◌then◌else◌}
use Rattle.std.specs.List.{list_any}
use Rattle.aa_files.specs.Texts.{texts}
use Rattle.aa_load.specs.UnitPolicy.{limit_of}
use Rattle.aa_command.specs.declared.decided.Decided.{Decided}
use Rattle.aa_command.specs.Setting.{Setting}
use Rattle.aa_command.specs.Printed.{Printed, faults_alone}
use Rattle.aa_command.specs.Policies.{IsPrintedFor}
use Rattle.aa_skipped.specs.declared.skipped.Skipped.{Skipped}
use Rattle.aa_skipped.specs.Telling.{count_text}
use Rattle.aa_skipped.specs.Policies.{IsPrintedOf}
use Rattle.aa_undecided.specs.Answers.{placed, may_hold_one, holders}
use Rattle.aa_who.specs.declared.command.WhoOptions.{WhoOptions}
use Rattle.aa_who.specs.Answers.{Answered, AreAnswers, IsFirstUnanswered}
use Rattle.aa_who.specs.Shown.{is_nobodys, answer_text, untold_text}
use Rattle.aa_who.specs.Json.{json_answers}
use Rattle.aa_command.specs.Counts.{passed_text, passed_in}

-- the answers beside these skipped files, how many rules decide nothing, and how many files are skipped
abbrev pub told_text : ℕ → List Skipped → List Answered → List ℕ
told_text passed skipped answers = flat_map (answer_text (holders skipped)) answers ++ passed_text passed ++ count_text (length skipped)

-- answers as they are wanted, of a policy of which so many rules decide nothing: as JSON, as text, or not at all
abbrev pub answers_text : WhoOptions → ℕ → List Skipped → List Answered → List ℕ
answers_text o passed skipped answers =
    if o.is_json then json_answers passed (map placed skipped) answers else (if o.is_quiet then [] else told_text passed skipped answers)

-- 1 where something can't be told, else 5 where skipped files may hold profiles, which aren't looked at, and else 4 where nobody is
-- granted a word
abbrev pub status_of : List ℕ → Bool → Bool → ℕ
status_of untold is_open has_nobodys = if length untold == 0 then (if is_open then 5 else (if has_nobodys then 4 else 0)) else 1

-- the answers, and what can't be told
abbrev pub who_printed : WhoOptions → ℕ → List Skipped → List Answered → Printed
who_printed o passed skipped answers =
    record {
      answers = answers_text o passed skipped answers;
      faults = flat_map untold_text answers;
      refusal = [];
      status = status_of (flat_map untold_text answers) (list_any may_hold_one skipped) (list_any is_nobodys answers);
    }

-- what is printed of the words, where these files are skipped and the others are this policy: the answers, or why one of them isn't
-- answered
pub data IsWhoOf (states : ℕ) (o : WhoOptions) (skipped : List Skipped) (d : Decided) (out : Printed) : Type 0 where
  NoWord : texts o.words.now ≡ [] → out ≡ faults_alone (codes "error: who takes at least one word\n") 2 → IsWhoOf states o skipped d out
  Unanswered : (line : List ℕ) → IsFirstUnanswered d (limit_of states) o.unclean (texts o.words.now) line → out ≡ faults_alone line 1 → IsWhoOf states o skipped d out
  Answers : (answers : List Answered) → AreAnswers d (limit_of states) o.unclean (texts o.words.now) answers → out ≡ who_printed o (passed_in d.policies.now) skipped answers
      → IsWhoOf states o skipped d out

-- what is printed by the files that are named: by those that aren't refused, where these are to be skipped, and else by all
abbrev pub IsWhoBy : Setting → WhoOptions → Printed → Type 0
IsWhoBy s o out = MatchBool o.skips (IsPrintedOf s (texts o.files.now) (IsWhoOf s.states o) out) (IsPrintedFor s (texts o.files.now) (IsWhoOf s.states o []) out)

-- What `who` prints. More than 65,536 words are refused before anything is read.
pub data IsWhoOutput (s : Setting) (o : WhoOptions) (out : Printed) : Type 0 where
  TooMany : 65536 < length o.words.now → out ≡ faults_alone (codes "error: who takes at most 65536 words\n") 2 → IsWhoOutput s o out
  Few : length o.words.now ≤ 65536 → IsWhoBy s o out → IsWhoOutput s o out
