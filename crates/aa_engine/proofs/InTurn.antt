-- Answering tasks one after the other, and making their lines meanwhile.
use Rattle.std.proofs.Common.{◌≡◌, Bool, ℕ, ◌+◌, ◌<◌, ◌≤◌, List, [], ◌∷◌, ◌++◌, length, drop, get_or, suc, Option, Some, None, refl, ap, sym, ◌∙◌, arith, append_assoc}
use Rattle.std.specs.Prelude.{option_map}
use Rattle.std.proofs.lemmas.List.{drop_more, at_drop_all, append-nil}
use Rattle.aa_model.specs.declared.policy.Policy.{Policy}
use Rattle.aa_model.specs.declared.label.Label.{Label}
use Rattle.aa_model.specs.declared.request.Request.{Request}
use Rattle.aa_model.specs.declared.answer.Answer.{Answer}
use Rattle.aa_jobs.specs.declared.job.Work.{Work}
use Rattle.aa_jobs.specs.declared.job.Work.TheVariants.{Ask, Exit}
use Rattle.aa_jobs.specs.declared.job.Task.{Task}
use Rattle.aa_lane.specs.Answers.{answered_from}
use Rattle.aa_mediate.specs.Reply.{reply}
use Rattle.aa_engine.specs.Answers.{Answered, asked, task_label, next_label}
use Rattle.aa_engine.specs.Output.{verdict_line, audit_lines, task_lines, lines_from, run_text}
use Rattle.aa_engine.proofs.Writing.{WritingTask, task_lines_step, task_lines_nil, lines_step, lines_nil}

abbrev Row : Type 0
Row = List (Answered (List Policy))

-- what policies answer works from a label on, numbered from n
abbrev pub row_from : List Policy → ℕ → Label → List Work → Row
row_from policies n label works = answered_from next_label reply policies n label (asked works)

pub deciding_more : (several : Bool) (policies : List Policy) (task : ℕ) (out middle more : List ℕ) (label after : Label) (request : Request) (answer : Answer) (works : List Work) (i : ℕ) (all : List ℕ)
    → i < length works → Ask request ≡ get_or works i (Ask request) → answer ≡ reply policies label request → after ≡ next_label policies label request
    → middle ≡ out ++ verdict_line {M = List Policy} several policies task (record { number = i; request = request; answer = answer })
    → more ≡ middle ++ audit_lines {M = List Policy} policies label (record { number = i; request = request; answer = answer })
    → WritingTask several policies task out label (row_from policies i label (drop i works)) all
    → WritingTask several policies task more after (row_from policies (i + 1) after (drop (i + 1) works)) all
deciding_more several policies task out middle more label after request answer works i all lt item is moved first second so_far =
    let a : Answered (List Policy) = record { number = i; request = request; answer = answer } in
    let rest = drop (i + 1) works in
    let here : drop i works ≡ Ask request ∷ rest = drop_more works i (Ask request) lt ∙ ap (λ (w : Work). w ∷ rest) (sym item) in
    let row : Row = row_from policies (i + 1) after rest in
    let numbered : Answer → Answered (List Policy) = λ (x : Answer). record { number = i; request = request; answer = x } in
    let label_is : after ≡ answer.label = moved ∙ ap (λ (x : Answer). x.label) (sym is) in
    let begins : row_from policies i label (drop i works) ≡ a ∷ row =
    ap (row_from policies i label) here
    ∙ ap (λ (x : Answer). numbered x ∷ row_from policies (suc i) (next_label policies label request) rest) (sym is)
    ∙ ap (λ (l : Label). a ∷ row_from policies (suc i) l rest) (sym moved)
    ∙ ap (λ (n : ℕ). a ∷ row_from policies n after rest) (omega arith) in
    let v = verdict_line several policies task a in
    let l = audit_lines policies label a in
    let tail = task_lines several policies task answer.label row in
    record {
      goes_on =
          ap (λ (x : Label). more ++ task_lines several policies task x row) label_is
          ∙ ap (λ (x : List ℕ). x ++ tail) (second ∙ ap (λ (x : List ℕ). x ++ l) first)
          ∙ append_assoc (out ++ v) l tail
          ∙ append_assoc out v (l ++ tail)
          ∙ ap (λ (x : List ℕ). out ++ x) (sym (task_lines_step several policies task label a row))
          ∙ ap (λ (x : Row). out ++ task_lines several policies task label x) (sym begins)
          ∙ so_far.goes_on;
    }

deciding_nothing : (several : Bool) (policies : List Policy) (task : ℕ) (out : List ℕ) (label : Label) (row : Row) (all : List ℕ)
    → row ≡ [] → WritingTask several policies task out label row all → out ≡ all
deciding_nothing several policies task out label row all none so_far =
    sym (append-nil out) ∙ ap (λ (x : List ℕ). out ++ x) (sym (task_lines_nil (List Policy) several policies task label))
    ∙ ap (λ (x : Row). out ++ task_lines several policies task label x) (sym none) ∙ so_far.goes_on

pub deciding_exit : (several : Bool) (policies : List Policy) (task : ℕ) (out : List ℕ) (label : Label) (works : List Work) (i : ℕ) (all : List ℕ)
    → i < length works → Exit ≡ get_or works i Exit → WritingTask several policies task out label (row_from policies i label (drop i works)) all → out ≡ all
deciding_exit several policies task out label works i all lt item so_far =
    let here : drop i works ≡ Exit ∷ drop (i + 1) works = drop_more works i Exit lt ∙ ap (λ (w : Work). w ∷ drop (i + 1) works) (sym item) in
    deciding_nothing several policies task out label (row_from policies i label (drop i works)) all (ap (row_from policies i label) here) so_far

pub deciding_end : (several : Bool) (policies : List Policy) (task : ℕ) (out : List ℕ) (label : Label) (works : List Work) (i : ℕ) (all : List ℕ)
    → length works ≤ i → WritingTask several policies task out label (row_from policies i label (drop i works)) all → out ≡ all
deciding_end several policies task out label works i all le so_far =
    deciding_nothing several policies task out label (row_from policies i label (drop i works)) all (at_drop_all (row_from policies i label) works i le) so_far

-- ---- task after task

-- what is written, and then the lines of the tasks that are left, are the lines of all
pub record InTurn (several : Bool) (policies : List Policy) (n : ℕ) (out : List ℕ) (rest : List Task) (all : Option (List ℕ)) : Type 0 where
  pub goes_on : option_map (λ (more : List ℕ). out ++ more) (lines_from next_label reply policies several policies n rest) ≡ all

unwritten : (o : Option (List ℕ)) → option_map (λ (more : List ℕ). [] ++ more) o ≡ o
unwritten None = refl
unwritten (Some more) = refl

behind : (out lines : List ℕ) (o : Option (List ℕ)) → option_map (λ (more : List ℕ). (out ++ lines) ++ more) o ≡ option_map (λ (more : List ℕ). out ++ more) (option_map (λ (others : List ℕ). lines ++ others) o)
behind out lines None = refl
behind out lines (Some more) = ap (λ (x : List ℕ). Some x) (append_assoc out lines more)

pub in_turn_start : (several : Bool) (policies : List Policy) (out : List ℕ) (tasks : List Task) → out ≡ [] → InTurn several policies 0 out tasks (run_text several policies tasks)
in_turn_start several policies out tasks e = record {
  goes_on = ap (λ (o : List ℕ). option_map (λ (more : List ℕ). o ++ more) (run_text several policies tasks)) e ∙ unwritten (run_text several policies tasks);
}

pub in_turn_more : (several : Bool) (policies : List Policy) (out more : List ℕ) (tasks : List Task) (task : Task) (label : Label) (i : ℕ) (all : Option (List ℕ))
    → i < length tasks → task ≡ get_or tasks i task → Some label ≡ task_label policies task
    → more ≡ out ++ task_lines several policies i label (row_from policies 0 label task.requests)
    → InTurn several policies i out (drop i tasks) all → InTurn several policies (i + 1) more (drop (i + 1) tasks) all
in_turn_more several policies out more tasks task label i all lt item named more-is so_far =
    let rest = drop (i + 1) tasks in
    let here : drop i tasks ≡ task ∷ rest = drop_more tasks i task lt ∙ ap (λ (t : Task). t ∷ rest) (sym item) in
    let lines = task_lines several policies i label (row_from policies 0 label task.requests) in
    let others = lines_from next_label reply policies several policies (i + 1) rest in
    record {
      goes_on =
          ap (λ (o : List ℕ). option_map (λ (x : List ℕ). o ++ x) others) more-is
          ∙ behind out lines others
          ∙ ap (option_map (λ (x : List ℕ). out ++ x)) (sym (lines_step next_label reply policies several policies i task rest label (sym named)))
          ∙ ap (λ (ts : List Task). option_map (λ (x : List ℕ). out ++ x) (lines_from next_label reply policies several policies i ts)) (sym here)
          ∙ so_far.goes_on;
    }

pub in_turn_end : (several : Bool) (policies : List Policy) (out : List ℕ) (tasks : List Task) (i : ℕ) (all : Option (List ℕ))
    → length tasks ≤ i → InTurn several policies i out (drop i tasks) all → all ≡ Some out
in_turn_end several policies out tasks i all le so_far =
    sym so_far.goes_on
    ∙ ap (option_map (λ (x : List ℕ). out ++ x)) (at_drop_all (lines_from next_label reply policies several policies i) tasks i le ∙ lines_nil next_label reply policies several policies i)
    ∙ ap (λ (x : List ℕ). Some x) (append-nil out)
