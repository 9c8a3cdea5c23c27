-- What `assert` prints.
-- Source: own.
use Rattle.std.specs.Prelude.{◌≡◌, ℕ, ◌==◌, List, [], ◌∷◌, ◌++◌, length, map, flat_map, codes, count_by, MatchBool, if◌then◌else◌, Err}
use Rattle.aa_base.specs.declared.unread.Unread.{Unread}
use Rattle.aa_text.specs.Visible.{all_visible}
use Rattle.aa_files.specs.Texts.{texts}
use Rattle.aa_files.specs.FilesData.{IsMain, IsMainText}
use Rattle.aa_load.specs.UnitPolicy.{limit_of}
use Rattle.aa_command.specs.declared.decided.Decided.{Decided}
use Rattle.aa_command.specs.Setting.{Setting}
use Rattle.aa_command.specs.Printed.{Printed, faults_alone}
use Rattle.aa_command.specs.Refusals.{SaysFault, SaysUnread}
use Rattle.aa_command.specs.Policies.{IsPrintedFor}
use Rattle.aa_skipped.specs.declared.skipped.Skipped.{Skipped}
use Rattle.aa_skipped.specs.Telling.{count_text}
use Rattle.aa_skipped.specs.Policies.{IsPrintedOf}
use Rattle.aa_undecided.specs.Answers.{placed}
use Rattle.aa_claims.specs.declared.lines.ClaimLine.{ClaimLine}
use Rattle.aa_claims.specs.declared.fault.Wrong.{Wrong}
use Rattle.aa_claims.specs.Lines.{AreClaims, IsFirstFault}
use Rattle.aa_claims.specs.Reports.{IsClaimReport}
use Rattle.aa_assert.specs.declared.part.Part.{Part}
use Rattle.aa_assert.specs.declared.command.AssertOptions.{AssertOptions}
use Rattle.aa_assert.specs.Answers.{Answered, AreAnswers, IsFirstUnanswered}
use Rattle.aa_assert.specs.Shown.{answers_text, untold_text, is_broken, is_undecided}
use Rattle.aa_assert.specs.Json.{json_answers}
use Rattle.aa_assert.specs.Gcc.{gcc_answers}
use Rattle.aa_assert.specs.Sarif.{sarif_answers}
use Rattle.aa_check.specs.declared.form.Form.{Form}
use Rattle.aa_check.specs.declared.form.Form.TheVariants.{Text, Json, Gcc, Sarif}
use Rattle.aa_command.specs.Counts.{passed_in, passed_text}

-- 1 where something can't be told, else 4 where a claim is broken, and else 5 where one is undecided
abbrev pub status_of : List ℕ → ℕ → ℕ → ℕ
status_of untold broken undecided = if length untold == 0 then (if broken == 0 then (if undecided == 0 then 0 else 5) else 4) else 1

-- the answers, how many rules decide nothing, and how many files are skipped
abbrev pub told_text : AssertOptions → ℕ → List Skipped → List Answered → List ℕ
told_text o passed skipped answers = answers_text o.claims.now answers ++ passed_text passed ++ count_text (length skipped)

-- answers in a form, by a policy of which so many rules decide nothing; text and JSON tell these, and how many files are skipped
abbrev pub text_in : Form → AssertOptions → ℕ → List Skipped → List Answered → List ℕ
text_in Text o passed skipped answers = told_text o passed skipped answers
text_in Json o passed skipped answers = json_answers passed (map placed skipped) answers
text_in Gcc o passed skipped answers = gcc_answers o.claims.now answers
text_in Sarif o passed skipped answers = sarif_answers o.claims.now answers

-- in the form that is wanted
abbrev pub wanted_text : AssertOptions → ℕ → List Skipped → List Answered → List ℕ
wanted_text o passed skipped answers = text_in o.form o passed skipped answers

-- the answers, and what can't be told
abbrev pub assert_printed : AssertOptions → ℕ → List Skipped → List Answered → Printed
assert_printed o passed skipped answers =
    record {
      answers = wanted_text o passed skipped answers;
      faults = flat_map untold_text answers;
      refusal = [];
      status = status_of (flat_map untold_text answers) (count_by is_broken answers) (count_by is_undecided answers);
    }

-- something is wrong with the claims at a path, and it is said: 1
pub record SaysWrong (path text : List ℕ) (IsSo : ℕ → Wrong → Type 0) (out : Printed) : Type 0 where
  pub at : ℕ
  pub fault : Wrong
  pub is_so : IsSo at fault
  pub says : SaysFault (IsClaimReport path text at fault) 1 out

-- the policy of the files that are read, those that are skipped, and whether unclean paths count
abbrev pub IsPart : AssertOptions → List Skipped → Decided → Part → Type 0
IsPart o skipped d p = (p.decided ≡ d) × (p.skipped.now ≡ skipped) × (p.unclean ≡ o.unclean)

-- what is printed of claims, where these files are skipped and the others are this policy: by whom they are broken, or why one of them
-- isn't answered
pub data IsAssertOf (states : ℕ) (o : AssertOptions) (text : List ℕ) (claims : List ClaimLine) (skipped : List Skipped) (d : Decided) (out : Printed) : Type 0 where
  Unanswered : (p : Part) → IsPart o skipped d p → SaysWrong o.claims.now text (IsFirstUnanswered o.is_first p (limit_of states) claims) out
      → IsAssertOf states o text claims skipped d out
  Answers : (p : Part) → IsPart o skipped d p → (answers : List Answered) → AreAnswers o.is_first p (limit_of states) claims answers
      → out ≡ assert_printed o (passed_in d.policies.now) skipped answers → IsAssertOf states o text claims skipped d out

-- what is printed by the files that are named: by those that aren't refused, where these are to be skipped, and else by all
abbrev pub IsAssertBy : Setting → AssertOptions → List ℕ → List ClaimLine → Printed → Type 0
IsAssertBy s o text claims out =
    MatchBool o.skips (IsPrintedOf s (texts o.files.now) (IsAssertOf s.states o text claims) out) (IsPrintedFor s (texts o.files.now) (IsAssertOf s.states o text claims []) out)

-- PATH: no claim stands here
unfoldable pub empty_text : List ℕ → List ℕ
empty_text path = all_visible path ++ codes ": no claim stands here\n"

-- what is printed of claims by the files that are named; where there are none that is said, and nothing is answered: 1
abbrev pub IsAssertSaid : Setting → AssertOptions → List ℕ → List ClaimLine → Printed → Type 0
IsAssertSaid s o text [] out = out ≡ faults_alone (empty_text o.claims.now) 1
IsAssertSaid s o text (l ∷ claims) out = IsAssertBy s o text (l ∷ claims) out

-- What `assert` prints: by whom the claims of a file are broken, or why it is none of claims or can't be read.
pub data IsAssertOutput (s : Setting) (o : AssertOptions) (out : Printed) : Type 0 where
  CantRead : (why : Unread) → IsMain s.files s.input o.claims.now (Err why) → SaysUnread o.claims.now why out → IsAssertOutput s o out
  NoClaims : (text : List ℕ) → IsMainText s.files s.input o.claims.now text → SaysWrong o.claims.now text (IsFirstFault text) out → IsAssertOutput s o out
  Claims : (text : List ℕ) (claims : List ClaimLine) → IsMainText s.files s.input o.claims.now text → AreClaims text claims
      → IsAssertSaid s o text claims out → IsAssertOutput s o out
