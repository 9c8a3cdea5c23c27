-- What the commands print of a question's texts answers the question.
use Rattle.std.proofs.Common.{◌≡◌, ◌≢◌, ℕ, List, Result, Ok, Err, Some, IfOk, codes, refl, subst}
use Rattle.aa_text.specs.declared.memory.NoMemory.{NoMemory}
use Rattle.aa_files.specs.Searches.{named_before}
use Rattle.aa_command.specs.declared.output.Output.{Output}
use Rattle.aa_command.specs.Printed.{Printed, printed, faults_alone}
use Rattle.aa_command.specs.Setting.{Setting}
use Rattle.aa_check.specs.declared.command.CheckOptions.{CheckOptions}
use Rattle.aa_check.specs.Command.{IsCheckOutput}
use Rattle.aa_ask.specs.declared.command.AskOptions.{AskOptions}
use Rattle.aa_ask.specs.Command.{IsAskOutput}
use Rattle.aa_diff.specs.declared.options.DiffOptions.{DiffOptions}
use Rattle.aa_diff.specs.Command.{IsDiffOutput}
use Rattle.aa_question.specs.Memory.{text_at, lying_at, taken_at}
use Rattle.aa_question.specs.declared.question.QuestionFault.{QuestionFault}
use Rattle.aa_question.specs.declared.question.QuestionFault.TheVariants.{NoMemory as WantOfMemory}
use Rattle.aa_question.specs.Questions.{FilesIn, PlacesIn, Asked, DiffAsked}
use Rattle.aa_question.specs.Answers.{setting_in, Checks, Asks, Compares, IsCheckOf, IsAskOf, IsDiffOf, IsAnswer, no_question}

-- the setting of a question, with a base folder and folders
abbrev pub setting_with : FilesIn → PlacesIn → List ℕ → List (List ℕ) → Setting
setting_with f p base folders = record {
  files = Some (lying_at f.texts);
  taken = Some (taken_at f.texts);
  input = text_at f.texts (codes "-");
  base = base;
  folders = folders;
  states = p.states;
}

pub setting_is : (f : FilesIn) (p : PlacesIn) (base : List ℕ) (folders : List (List ℕ)) → base ≡ p.base → folders ≡ named_before p.folders p.base
    → setting_with f p base folders ≡ setting_in f p
setting_is f p base folders b n = rw (b, n) refl

pub check_of : (q : Asked) (base : List ℕ) (folders : List (List ℕ)) (o : CheckOptions) (r : Result Output NoMemory) → base ≡ q.places.base → folders ≡ named_before q.places.folders q.places.base → Checks q o
    → IfOk r (λ out. IsCheckOutput (setting_with q.files q.places base folders) o (printed out)) → IfOk r (λ out. IsCheckOf q (printed out))
check_of q base folders o (Ok out) b f checks found =
    record { options = o; asked = checks; printed = subst (λ (s : Setting). IsCheckOutput s o (printed out)) (setting_is q.files q.places base folders b f) found }
check_of q base folders o (Err why) b f checks found = tt

pub ask_of : (q : Asked) (base : List ℕ) (folders : List (List ℕ)) (o : AskOptions) (r : Result Output NoMemory) → base ≡ q.places.base → folders ≡ named_before q.places.folders q.places.base → Asks q o
    → IfOk r (λ out. IsAskOutput (setting_with q.files q.places base folders) o q.words (printed out)) → IfOk r (λ out. IsAskOf q (printed out))
ask_of q base folders o (Ok out) b f asks found =
    record { options = o; asked = asks; printed = subst (λ (s : Setting). IsAskOutput s o q.words (printed out)) (setting_is q.files q.places base folders b f) found }
ask_of q base folders o (Err why) b f asks found = tt

-- where each side is read in its setting
pub diff_of : (q : DiffAsked) (base other : List ℕ) (folders others : List (List ℕ)) (o : DiffOptions) (r : Result Output NoMemory)
    → base ≡ q.old.places.base → folders ≡ named_before q.old.places.folders q.old.places.base
    → other ≡ q.new.places.base → others ≡ named_before q.new.places.folders q.new.places.base → Compares q o
    → IfOk r (λ out. IsDiffOutput (setting_with q.old.files q.old.places base folders) (setting_with q.new.files q.new.places other others) o (printed out))
    → IfOk r (λ out. IsDiffOf q (printed out))
diff_of q base other folders others o (Ok out) b f c g compares found =
    let old = setting_is q.old.files q.old.places base folders b f in
    let new = setting_is q.new.files q.new.places other others c g in
    let at_old = subst (λ (s : Setting). IsDiffOutput s (setting_with q.new.files q.new.places other others) o (printed out)) old found in
    record { options = o; asked = compares; printed = subst (λ (s : Setting). IsDiffOutput (setting_in q.old.files q.old.places) s o (printed out)) new at_old }
diff_of q base other folders others o (Err why) b f c g compares found = tt

module _ {Q : Type 0} (reads : List ℕ → Result Q QuestionFault) (IsOf : Q → Printed → Type 0) (bytes : List ℕ) where
  pub answered_of : (q : Q) (r : Result Output NoMemory) → reads bytes ≡ Ok q → IfOk r (λ out. IsOf q (printed out)) → IfOk r (λ out. IsAnswer reads IsOf bytes (printed out))
  answered_of q (Ok out) is found = IsAnswer.Answered q is found
  answered_of q (Err why) is found = tt

  pub refused_of : (why : QuestionFault) (r : Result Output NoMemory) → (why ≢ WantOfMemory → reads bytes ≡ Err why)
      → IfOk r (λ out. printed out ≡ faults_alone (no_question why) 2) → IfOk r (λ (_ : Output). why ≢ WantOfMemory) → IfOk r (λ out. IsAnswer reads IsOf bytes (printed out))
  refused_of why (Ok out) is said other = IsAnswer.Refused why (is other) said
  refused_of why (Err none) is said other = tt
