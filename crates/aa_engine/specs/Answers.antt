-- What a job asks for and means: each task's requests before its first exit, answered from its label on.
-- Source: own.
use Rattle.std.specs.Prelude.{ℕ, ◌≡◌, List, [], ◌∷◌, Option, Some, map, option_and_then, is_none, position}
use Rattle.aa_model.specs.declared.policy.Policy.{Policy}
use Rattle.aa_model.specs.declared.label.Label.{Label}
use Rattle.aa_model.specs.declared.request.Request.{Request}
use Rattle.aa_model.specs.declared.answer.Answer.{Answer}
use Rattle.aa_jobs.specs.declared.job.Work.{Work}
use Rattle.aa_jobs.specs.declared.job.Work.TheVariants.{Ask, Exit}
use Rattle.aa_jobs.specs.declared.job.Task.{Task}
use Rattle.aa_lane.specs.Answers.{answered_from}
use Rattle.aa_lane.specs.declared.lane.Answered.{Answered as AnsweredBy}
use Rattle.aa_pool.specs.declared.close.Outcome.{Outcome}
use Rattle.aa_pool.specs.Closed.{AreOutcomes}
use Rattle.aa_compile.specs.Labels.{label_named}
use Rattle.aa_mediate.specs.Reply.{reply}

infixl 10 ◌>>=◌
abbrev pub ◌>>=◌ : {A B : Type 0} → Option A → (A → Option B) → Option B
o >>= f = option_and_then f o

-- the requests before the first exit, all where there is none
abbrev pub asked : List Work → List Request
asked [] = []
asked (Ask request ∷ works) = request ∷ asked works
asked (Exit ∷ works) = []

-- the label that a task opens with, in the policy that it names
abbrev pub task_label : List Policy → Task → Option Label
task_label policies task = label_named policies task.policy task.label

-- the first task whose label names no profile
abbrev pub first_unknown : List Policy → List Task → Option ℕ
first_unknown policies tasks = position (λ (t : Task). is_none (task_label policies t)) tasks

-- ---- by any machine that moves labels and answers requests

-- a request that a machine has answered, with its number
abbrev pub Answered : Type 0 → Type 0
Answered M = AnsweredBy M Label Request Answer

-- lanes of this capacity, which opened in these states, were closed, and these are the answers that they gave
pub record AreClosed {M S Q A : Type 0} (next : M → S → Q → S) (reply : M → S → Q → A) (machine : M) (capacity : ℕ) (starts : List S) (rows : List (List (AnsweredBy M S Q A))) : Type 0 where
  pub outcomes : List (Outcome M S Q A)
  pub answers : map (λ (o : Outcome M S Q A). o.answers.items) outcomes ≡ rows
  pub closed : AreOutcomes next reply machine capacity starts outcomes

module _ {M : Type 0} (next : M → Label → Request → Label) (decide : M → Label → Request → Answer) (machine : M) where
  -- what a machine answers a task from its label on: the requests with their numbers from 0, each at the label that the one before it left
  abbrev pub answers_by : Task → Label → List (Answered M)
  answers_by task label = answered_from next decide machine 0 label (asked task.requests)

  -- what it answers each task; nothing where a label names no profile
  unfoldable pub job_answers_by : List Policy → List Task → Option (List (List (Answered M)))
  job_answers_by policies [] = Some []
  job_answers_by policies (task ∷ tasks) = do
    label ← task_label policies task
    others ← job_answers_by policies tasks
    Some (answers_by task label ∷ others)

  -- each task had a lane of this capacity, which opened with the task's label and was closed, and these are the answers
  pub record WereClosed (policies : List Policy) (capacity : ℕ) (tasks : List Task) (rows : List (List (Answered M))) : Type 0 where
    pub labels : List Label
    pub outcomes : List (Outcome M Label Request Answer)
    pub named : map (task_label policies) tasks ≡ map (λ (l : Label). Some l) labels
    pub answers : map (λ (o : Outcome M Label Request Answer). o.answers.items) outcomes ≡ rows
    pub closed : AreOutcomes next decide machine capacity labels outcomes

-- ---- by policies

-- the label after a request
abbrev pub next_label : List Policy → Label → Request → Label
next_label policies label request = (reply policies label request).label

-- what each task is answered; nothing where a label names no profile
abbrev pub job_answers : List Policy → List Task → Option (List (List (Answered (List Policy))))
job_answers policies tasks = job_answers_by next_label reply policies policies tasks
