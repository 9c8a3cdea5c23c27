-- Writing the lines of a task's answers, and joining those of task after task.
use Rattle.std.proofs.Common.{◌≡◌, Bool, ℕ, ◌+◌, ◌<◌, ◌≤◌, List, [], ◌∷◌, ◌++◌, length, take, drop, get_or, map, zero, suc, Option, Some, None, refl, ap, sym, subst, ◌∙◌, arith, append_assoc, add-zero}
use Rattle.std.specs.Prelude.{Result, Ok, Err, IfOk, String, codes, decimal, option_map, option_and_then, is_none}
use Rattle.std.specs.Global.{Global}
use Rattle.std.specs.List.{All, position_from}
use Rattle.std.specs.String.{string_bytes}
use Rattle.std.proofs.lemmas.Iterator.Adapters.{position_from-zero}
use Rattle.std.proofs.lemmas.List.Elements.{All-append}
use Rattle.std.proofs.lemmas.List.{drop_more, at_drop_all, append-nil, take_all, take-append-le}
use Rattle.aa_model.specs.declared.policy.Policy.{Policy}
use Rattle.aa_model.specs.declared.label.Label.{Label}
use Rattle.aa_model.specs.declared.request.Request.{Request}
use Rattle.aa_model.specs.declared.answer.Answer.{Answer}
use Rattle.aa_jobs.specs.declared.job.Task.{Task}
use Rattle.aa_engine.specs.declared.texts.TaskText.{TaskText}
use Rattle.aa_engine.specs.Answers.{Answered, answers_by, task_label, job_answers_by, first_unknown}
use Rattle.aa_engine.specs.LineEnds.{SayTheSame}
use Rattle.aa_engine.specs.Output.{outcome_text, verdict_line, audit_lines, task_lines, lines_from}
use Rattle.aa_engine.specs.Texts.{IsMade, joined_lines}

-- ---- answer after answer

-- what is written, and then the lines of these answers, are the lines of all behind what was there
pub record WritingTask {M : Type 0} (several : Bool) (policies : List Policy) (task : ℕ) (out : List ℕ) (before : Label) (rest : List (Answered M)) (all : List ℕ) : Type 0 where
  pub goes_on : out ++ task_lines several policies task before rest ≡ all

pub task_lines_step : {M : Type 0} (several : Bool) (policies : List Policy) (task : ℕ) (before : Label) (a : Answered M) (rest : List (Answered M))
    → task_lines several policies task before (a ∷ rest) ≡ verdict_line several policies task a ++ (audit_lines policies before a ++ task_lines several policies task a.answer.label rest)
unfolding task_lines
task_lines_step {M} several policies task before a rest = refl

pub task_lines_nil : (M : Type 0) (several : Bool) (policies : List Policy) (task : ℕ) (before : Label) → task_lines {M = M} several policies task before [] ≡ []
unfolding task_lines
task_lines_nil M several policies task before = refl

pub writing_task_more : {M : Type 0} (several : Bool) (policies : List Policy) (task : ℕ) (out middle more : List ℕ) (before : Label) (a : Answered M) (answers : List (Answered M)) (i : ℕ) (all : List ℕ)
    → i < length answers → a ≡ get_or answers i a → middle ≡ out ++ verdict_line several policies task a → more ≡ middle ++ audit_lines policies before a
    → WritingTask several policies task out before (drop i answers) all → WritingTask several policies task more a.answer.label (drop (i + 1) answers) all
writing_task_more {M} several policies task out middle more before a answers i all lt item first second so_far =
    let rest = drop (i + 1) answers in
    let here : drop i answers ≡ a ∷ rest = drop_more answers i a lt ∙ ap (λ (x : Answered M). x ∷ rest) (sym item) in
    let v = verdict_line several policies task a in
    let l = audit_lines policies before a in
    let tail = task_lines several policies task a.answer.label rest in
    record {
      goes_on =
          ap (λ (x : List ℕ). x ++ tail) (second ∙ ap (λ (x : List ℕ). x ++ l) first)
          ∙ append_assoc (out ++ v) l tail
          ∙ append_assoc out v (l ++ tail)
          ∙ ap (λ (x : List ℕ). out ++ x) (sym (task_lines_step several policies task before a rest))
          ∙ ap (λ (x : List (Answered M)). out ++ task_lines several policies task before x) (sym here)
          ∙ so_far.goes_on;
    }

pub writing_task_end : {M : Type 0} (several : Bool) (policies : List Policy) (task : ℕ) (out : List ℕ) (before : Label) (answers : List (Answered M)) (i : ℕ) (all : List ℕ)
    → length answers ≤ i → WritingTask several policies task out before (drop i answers) all → out ≡ all
writing_task_end {M} several policies task out before answers i all le so_far =
    sym (append-nil out) ∙ ap (λ (x : List ℕ). out ++ x) (sym (task_lines_nil M several policies task before))
    ∙ sym (at_drop_all (λ (x : List (Answered M)). out ++ task_lines several policies task before x) answers i le) ∙ so_far.goes_on

-- a line's front, its number and its end
pub verdict_is : {M : Type 0} (several : Bool) (policies : List Policy) (task : ℕ) (a : Answered M) (front end : List ℕ)
    → front ≡ decimal task ++ codes " " → end ≡ outcome_text several policies a.answer ++ codes "\n"
    → front ++ (decimal a.number ++ end) ≡ verdict_line several policies task a
unfolding verdict_line
verdict_is several policies task a front end begins ends =
    let opens = decimal task ++ codes " " in
    let outcome = outcome_text several policies a.answer in
    ap (λ (x : List ℕ). x ++ (decimal a.number ++ end)) begins
    ∙ ap (λ (x : List ℕ). opens ++ (decimal a.number ++ x)) ends
    ∙ sym (append_assoc opens (decimal a.number) (outcome ++ codes "\n"))
    ∙ sym (append_assoc (opens ++ decimal a.number) outcome (codes "\n"))

pub ends_alike : (several : Bool) (policies : List Policy) (one other : Answer) → SayTheSame one other
    → outcome_text several policies one ≡ outcome_text several policies other
unfolding outcome_text
ends_alike several policies one other same = rw (same.0, same.1, same.2) refl

pub nothing_more : {M : Type 0} (several : Bool) (policies : List Policy) (task : ℕ) (out : List ℕ) (before : Label)
    (answers : List (Answered M)) → length answers ≡ 0 → out ≡ out ++ task_lines several policies task before answers
nothing_more {M} several policies task out before [] none =
    sym (append-nil out) ∙ ap (λ (x : List ℕ). out ++ x) (sym (task_lines_nil M several policies task before))
nothing_more several policies task out before (a ∷ answers) none = absurd (omega arith)

-- ---- text after text

of_one : {X : Type 0} (x : X) (P : X → Type 0) → P x → All P (x ∷ [])
of_one x P here zero d lt = here
of_one x P here (suc k) d lt = absurd (omega arith)

-- one more of which it holds
pub all_with : {X : Type 0} (xs more : List X) (x : X) (P : X → Type 0) → more ≡ xs ++ x ∷ [] → P x → All P xs → All P more
all_with xs more x P e here so_far = rw e (All-append P xs (x ∷ []) so_far (of_one x P here))

-- a list that was written over whole
pub kept_whole : {X : Type 0} (after before : List X) (n : ℕ) → n ≡ length before → length after ≡ length before → take n (after ++ drop (length after) before) ≡ after
kept_whole after before n count len =
    let fits : n ≤ length after = omega arith in
    take-append-le n after (drop (length after) before) fits ∙ take_all n after (omega arith)

pub where_ok : {T E : Type 0} (r : Result T E) (P Q : T → Type 0) → ((x : T) → P x → Q x) → IfOk r P → IfOk r Q
where_ok (Ok x) P Q f p = f x p
where_ok (Err e) P Q f p = p

-- the parts of a text that is there
joined_parts : {S : Type 0} (f : S → List ℕ) (o : Option S) (q : Option (List ℕ)) (text : List ℕ)
    → option_and_then (λ (x : S). option_and_then (λ (others : List ℕ). Some (f x ++ others)) q) o ≡ Some text
    → (x : S) × (others : List ℕ) × (o ≡ Some x) × (q ≡ Some others) × (text ≡ f x ++ others)
joined_parts f None q text e = absurd cc
joined_parts f (Some x) None text e = absurd cc
joined_parts f (Some x) (Some others) text e = (x, others, refl, refl, cc)

-- what is joined, and then the lines that are left, are the lines of all
pub record Joining {M : Type 0} (out : List ℕ) (left all : List (TaskText M)) : Type 0 where
  pub goes_on : option_map (λ (more : List ℕ). out ++ more) (joined_lines left) ≡ joined_lines all

none_before : (o : Option (List ℕ)) → option_map (λ (more : List ℕ). [] ++ more) o ≡ o
none_before None = refl
none_before (Some more) = refl

written_behind : (out lines : List ℕ) (o : Option (List ℕ))
    → option_map (λ (more : List ℕ). (out ++ lines) ++ more) o ≡ option_map (λ (more : List ℕ). out ++ more) (option_and_then (λ (others : List ℕ). Some (lines ++ others)) o)
written_behind out lines None = refl
written_behind out lines (Some more) = ap (λ (x : List ℕ). Some x) (append_assoc out lines more)

pub joining_start : {M : Type 0} (out : List ℕ) (left all : List (TaskText M)) → out ≡ [] → left ≡ all → Joining out left all
joining_start {M} out left all e same =
    record { goes_on = ap (λ (o : List ℕ). option_map (λ (more : List ℕ). o ++ more) (joined_lines left)) e ∙ none_before (joined_lines left) ∙ ap joined_lines same }

joined_step : {M : Type 0} (text : TaskText M) (lines : String Global) (rest : List (TaskText M)) → text.lines ≡ Some lines
    → joined_lines (text ∷ rest) ≡ option_and_then (λ (others : List ℕ). Some (string_bytes lines ++ others)) (joined_lines rest)
joined_step {M} text lines rest e = ap (λ (o : Option (String Global)). option_and_then (λ (l : String Global). option_and_then (λ (others : List ℕ). Some (string_bytes l ++ others)) (joined_lines rest)) o) e

pub joining_more : {M : Type 0} (out more : List ℕ) (text : TaskText M) (lines : String Global) (left rest all : List (TaskText M))
    → left ≡ text ∷ rest → text.lines ≡ Some lines → more ≡ out ++ string_bytes lines → Joining out left all → Joining more rest all
joining_more {M} out more text lines left rest all here there more-is so_far = record {
  goes_on =
      ap (λ (o : List ℕ). option_map (λ (x : List ℕ). o ++ x) (joined_lines rest)) more-is
      ∙ written_behind out (string_bytes lines) (joined_lines rest)
      ∙ ap (option_map (λ (x : List ℕ). out ++ x)) (sym (joined_step text lines rest there))
      ∙ ap (λ (ts : List (TaskText M)). option_map (λ (x : List ℕ). out ++ x) (joined_lines ts)) (sym here)
      ∙ so_far.goes_on;
}

pub joining_end : {M : Type 0} (out : List ℕ) (left all : List (TaskText M)) → left ≡ [] → Joining out left all → joined_lines all ≡ Some out
joining_end {M} out left all none so_far =
    sym so_far.goes_on ∙ ap (λ (ts : List (TaskText M)). option_map (λ (x : List ℕ). out ++ x) (joined_lines ts)) none ∙ ap (λ (x : List ℕ). Some x) (append-nil out)

-- ---- task after task

module _ {M : Type 0} (next : M → Label → Request → Label) (decide : M → Label → Request → Answer) (machine : M) where
  abbrev Row : Type 0
  Row = List (Answered M)

  -- the parts of a job_answers that is there
  record Head (policies : List Policy) (task : Task) (rest : List Task) (row : Row) (rows : List Row) : Type 0 where
    label : Label
    named : task_label policies task ≡ Some label
    answers : row ≡ answers_by next decide machine task label
    behind : job_answers_by next decide machine policies rest ≡ Some rows

  parts : (o : Option Label) (q : Option (List Row)) (f : Label → Row) (row : Row) (rows : List Row)
      → option_and_then (λ (l : Label). option_and_then (λ (others : List Row). Some (f l ∷ others)) q) o ≡ Some (row ∷ rows)
      → (l : Label) × (o ≡ Some l) × (row ≡ f l) × (q ≡ Some rows)
  parts None q f row rows e = absurd cc
  parts (Some l) None f row rows e = absurd cc
  parts (Some l) (Some others) f row rows e = (l, refl, cc, cc)

  head_of : (policies : List Policy) (task : Task) (rest : List Task) (row : Row) (rows : List Row) → job_answers_by next decide machine policies (task ∷ rest) ≡ Some (row ∷ rows) → Head policies task rest row rows
  unfolding job_answers_by
  head_of policies task rest row rows e =
      let p = parts (task_label policies task) (job_answers_by next decide machine policies rest) (answers_by next decide machine task) row rows e in
      record { label = p.0; named = p.1; answers = p.2; behind = p.3 }

  no_row : (o : Option Label) (q : Option (List Row)) (f : Label → Row) → option_and_then (λ (l : Label). option_and_then (λ (others : List Row). Some (f l ∷ others)) q) o ≡ Some [] → ⊥
  no_row None q f e = cc
  no_row (Some l) None f e = cc
  no_row (Some l) (Some others) f e = cc

  -- a task has a row, and a row a task
  task_without_row : (policies : List Policy) (task : Task) (rest : List Task) → job_answers_by next decide machine policies (task ∷ rest) ≡ Some [] → ⊥
  unfolding job_answers_by
  task_without_row policies task rest e = no_row (task_label policies task) (job_answers_by next decide machine policies rest) (answers_by next decide machine task) e

  row_without_task : (policies : List Policy) (row : Row) (rows : List Row) → job_answers_by next decide machine policies [] ≡ Some (row ∷ rows) → ⊥
  unfolding job_answers_by
  row_without_task policies row rows e = cc

  -- there are as many rows as tasks
  pub as_many_rows : (policies : List Policy) (tasks : List Task) (rows : List Row) → job_answers_by next decide machine policies tasks ≡ Some rows → length rows ≡ length tasks
  as_many_rows policies [] [] e = refl
  as_many_rows policies [] (row ∷ rows) e = absurd (row_without_task policies row rows e)
  as_many_rows policies (task ∷ rest) [] e = absurd (task_without_row policies task rest e)
  as_many_rows policies (task ∷ rest) (row ∷ rows) e = ap suc (as_many_rows policies rest rows (head_of policies task rest row rows e).behind)

  known_from : (policies : List Policy) (k : ℕ) (tasks : List Task) (rows : List Row) → job_answers_by next decide machine policies tasks ≡ Some rows
      → position_from (λ (t : Task). is_none (task_label policies t)) k tasks ≡ None
  known_from policies k [] rows e = refl
  known_from policies k (task ∷ rest) [] e = absurd (task_without_row policies task rest e)
  known_from policies k (task ∷ rest) (row ∷ rows) e =
      let h = head_of policies task rest row rows e in
      rw h.named (known_from policies (k + 1) rest rows h.behind)

  -- where each task has answers, no label is unknown
  pub all_known : (policies : List Policy) (tasks : List Task) (rows : List Row) → job_answers_by next decide machine policies tasks ≡ Some rows → first_unknown policies tasks ≡ None
  all_known policies tasks rows e = position_from-zero (λ (t : Task). is_none (task_label policies t)) tasks ∙ known_from policies 0 tasks rows e

  mapped : (text : List ℕ) (o : Option (List ℕ)) → option_and_then (λ (others : List ℕ). Some (text ++ others)) o ≡ option_map (λ (others : List ℕ). text ++ others) o
  mapped text None = refl
  mapped text (Some others) = refl

  pub lines_step : (several : Bool) (policies : List Policy) (n : ℕ) (task : Task) (rest : List Task) (label : Label) → task_label policies task ≡ Some label
      → lines_from next decide machine several policies n (task ∷ rest) ≡ option_map
      (λ (others : List ℕ). task_lines several policies n label (answers_by next decide machine task label) ++ others)
      (lines_from next decide machine several policies (n + 1) rest)
  unfolding lines_from
  lines_step several policies n task rest label e = rw e (mapped (task_lines several policies n label (answers_by next decide machine task label)) (lines_from next decide machine several policies (n + 1) rest))

  pub lines_nil : (several : Bool) (policies : List Policy) (n : ℕ) → lines_from next decide machine several policies n [] ≡ Some []
  unfolding lines_from
  lines_nil several policies n = refl

  abbrev OfTask : Type 0
  OfTask = TaskText M

  -- the texts that were made from number n on, joined, are the lines of the tasks
  pub lines_joined : (several : Bool) (policies : List Policy) (n : ℕ) (tasks : List Task) (before after : List OfTask) (text : List ℕ)
      → job_answers_by next decide machine policies tasks ≡ Some (map (λ (t : OfTask). t.answers.now) before)
      → map (λ (t : OfTask). Some t.opening) before ≡ map (task_label policies) tasks
      → All (λ (t : OfTask). (t.several ≡ several) × (t.policies.now ≡ policies)) before
      → length after ≡ length before
      → ((i : ℕ) (d : OfTask) → i < length before → IsMade (n + i) (get_or before i d) (get_or after i d))
      → joined_lines after ≡ Some text
      → lines_from next decide machine several policies n tasks ≡ Some text
  lines_joined several policies n [] [] [] text answered labels alike len made joined = lines_nil several policies n ∙ joined
  lines_joined several policies n [] [] (a ∷ afters) text answered labels alike len made joined = absurd cc
  lines_joined several policies n [] (b ∷ bs) after text answered labels alike len made joined = absurd cc
  lines_joined several policies n (task ∷ rest) [] after text answered labels alike len made joined = absurd cc
  lines_joined several policies n (task ∷ rest) (b ∷ bs) [] text answered labels alike len made joined = absurd cc
  lines_joined several policies n (task ∷ rest) (b ∷ bs) (a ∷ afters) text answered labels alike len made joined =
      let h = head_of policies task rest b.answers.now (map (λ (t : OfTask). t.answers.now) bs) answered in
      let named : task_label policies task ≡ Some b.opening = cc in
      let others : map (λ (t : OfTask). Some t.opening) bs ≡ map (task_label policies) rest = cc in
      let one : Some b.opening ≡ Some h.label = sym named ∙ h.named in
      let same : h.label ≡ b.opening = cc in
      let p = joined_parts (λ (l : String Global). string_bytes l) a.lines (joined_lines afters) text joined in
      let here : IsMade n b a = subst (λ k. IsMade k b a) (add-zero n) (made zero b (omega arith)) in
      let like = alike zero b (omega arith) in
      let lines : string_bytes p.0 ≡ task_lines several policies n b.opening b.answers.now = rw (p.2, like.0, like.1) at here.lines in
      let row : b.answers.now ≡ answers_by next decide machine task b.opening = h.answers ∙ ap (answers_by next decide machine task) same in
      let behind = lines_joined several policies (n + 1) rest bs afters p.1 h.behind others (λ i d lt. alike (suc i) d (omega arith)) (omega arith)
      (λ i d lt. subst (λ k. IsMade k (get_or bs i d) (get_or afters i d)) (omega arith) (made (suc i) d (omega arith))) p.3 in
      lines_step several policies n task rest b.opening named
      ∙ ap (option_map (λ (x : List ℕ). task_lines several policies n b.opening (answers_by next decide machine task b.opening) ++ x)) behind
      ∙ ap (λ (r : Row). Some (task_lines several policies n b.opening r ++ p.1)) (sym row)
      ∙ ap (λ (l : List ℕ). Some (l ++ p.1)) (sym lines)
      ∙ ap (λ (x : List ℕ). Some x) (sym p.4)

-- five texts, one behind the other
pub five : (out a b c d e one two three four whole : List ℕ) → one ≡ out ++ a → two ≡ one ++ b → three ≡ two ++ c → four ≡ three ++ d → whole ≡ four ++ e → whole ≡ out ++ (a ++ b ++ c ++ d ++ e)
five out a b c d e one two three four whole p q r s t = rw (t, s, r, q, p) (simp append_assoc)
