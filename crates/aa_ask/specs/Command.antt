-- What `ask` prints.
-- Source: own.
use Rattle.std.specs.Prelude.{ℕ, ◌≡◌, ◌==◌, ◌+◌, ◌<◌, ◌≤◌, List, [], ◌++◌, length, flat_map, codes, not, if◌then◌else◌, Bool, Option, Some, None, is_some, option_map, Ok, Err}
use Rattle.std.specs.List.{list_any}
use Rattle.aa_files.specs.Texts.{texts}
use Rattle.aa_base.specs.declared.unread.Unread.{Unread}
use Rattle.aa_files.specs.FilesData.{IsMain, IsMainText}
use Rattle.aa_ask.specs.Told.{Told}
use Rattle.aa_ask.specs.Shown.{verdict_text}
use Rattle.aa_ask.specs.Json.{json_verdicts}
use Rattle.aa_ask.specs.Asked.{Outcome, answers}
use Rattle.aa_ask.specs.Words.{word_lines}
use Rattle.aa_ask.specs.Unattached.{opening_warning}
use Rattle.aa_command.specs.declared.decided.Decided.{Decided}
use Rattle.aa_command.specs.Setting.{Setting}
use Rattle.aa_ask.specs.declared.command.AskOptions.{AskOptions}
use Rattle.aa_command.specs.Printed.{Printed, faults_alone}
use Rattle.aa_ask.specs.Refused.{many_words, SaysTooLarge, SaysUnreadWords}
use Rattle.aa_command.specs.Policies.{IsPrintedFor}

-- verdicts as they are wanted: as JSON, as text, or not at all
abbrev pub verdicts_text : AskOptions → List Told → List ℕ
verdicts_text o ts = if o.is_json then json_verdicts ts else (if o.is_quiet then [] else flat_map (verdict_text (is_some o.manner.program)) ts)

-- one of the requests is denied
abbrev pub is_one_denied : List Told → Bool
is_one_denied ts = list_any (λ (t : Told). not t.granted) ts

-- the verdicts behind what is warned of, with 4 where one is denied; or the line that refuses
abbrev pub ask_printed : AskOptions → List ℕ → Outcome (List Told) → Printed
ask_printed o warning (Err line) = faults_alone line 1
ask_printed o warning (Ok ts) = record { answers = verdicts_text o ts; faults = warning; refusal = []; status = if is_one_denied ts then 4 else 0 }

-- what is printed of these words, where the files are this policy
abbrev pub words_answered : AskOptions → Decided → List (List ℕ) → Printed
words_answered o d words = ask_printed o (opening_warning d.policies.now o.manner) (answers d o.manner words)

-- the same, or that nothing is asked
abbrev pub asked_of : AskOptions → Decided → List (List ℕ) → Printed
asked_of o d words = if length words == 0 then faults_alone (codes "error: ask takes at least one word\n") 2 else words_answered o d words

-- what is printed where these words are asked: the verdicts on them by the one policy that the files are, or why they are none
abbrev pub IsAsked : Setting → AskOptions → List (List ℕ) → Printed → Type 0
IsAsked s o words out = IsPrintedFor s (texts o.files.now) (λ d printed. printed ≡ asked_of o d words) out

-- what is printed where words of a text are asked behind others: of too many that, with the path of the text
pub data IsAskedBehind (asks : List (List ℕ) → Printed → Type 0) (path : List ℕ) (first : List (List ℕ)) (text : List ℕ) (out : Printed) : Type 0 where
  Beyond : 65536 < length first + length (word_lines text) → SaysTooLarge path many_words out → IsAskedBehind asks path first text out
  Within : length first + length (word_lines text) ≤ 65536 → asks (first ++ word_lines text) out → IsAskedBehind asks path first text out

-- what is printed where the words of a file are asked too, or why it can't be read
pub data IsAskedFrom (s : Setting) (asks : List (List ℕ) → Printed → Type 0) (path : List ℕ) (first : List (List ℕ)) (out : Printed) : Type 0 where
  Unreadable : (why : Unread) → IsMain s.files s.input path (Err why) → SaysUnreadWords path why out → IsAskedFrom s asks path first out
  Readable : (text : List ℕ) → IsMainText s.files s.input path text → IsAskedBehind asks path first text out → IsAskedFrom s asks path first out

-- the words asked are those of a file, or those given
abbrev pub IsAskedWith : Setting → AskOptions → Option (List ℕ) → List (List ℕ) → Printed → Type 0
IsAskedWith s o None words out = IsAsked s o words out
IsAskedWith s o (Some path) words out = IsAskedFrom s (IsAsked s o) path words out

-- What `ask` prints, with these words on the command line. More than 65,536 of them are refused before anything is read.
pub data IsAskOutput (s : Setting) (o : AskOptions) (words : List (List ℕ)) (out : Printed) : Type 0 where
  TooMany : 65536 < length words → out ≡ faults_alone (codes "error: ask takes at most 65536 words\n") 2 → IsAskOutput s o words out
  Few : length words ≤ 65536 → IsAskedWith s o (option_map (λ path. path.now) o.from) words out → IsAskOutput s o words out
