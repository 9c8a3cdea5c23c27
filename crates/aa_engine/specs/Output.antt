-- What the commands write.
-- Source: own.
use Rattle.std.specs.Prelude.{ℕ, ◌+◌, List, [], ◌∷◌, ◌++◌, length, codes, decimal, flat_map, sum_by, Bool, Option, Some, if◌then◌else◌}
use Rattle.std.specs.Option.{option_map_or}
use Rattle.std.specs.List.{list_all, slice_get}
use Rattle.aa_model.specs.declared.policy.Policy.{Policy}
use Rattle.aa_model.specs.declared.policy.Profile.{Profile}
use Rattle.aa_model.specs.declared.policy.PassedOver.{PassedOver}
use Rattle.aa_model.specs.declared.label.Label.{Label}
use Rattle.aa_model.specs.declared.request.Request.{Request}
use Rattle.aa_model.specs.declared.answer.Answer.{Answer}
use Rattle.aa_jobs.specs.declared.job.Task.{Task}
use Rattle.aa_base.specs.Values.{is_shown, value}
use Rattle.aa_compile.specs.Labels.{label_name, policy_number}
use Rattle.aa_audit.specs.Lines.{line}
use Rattle.aa_engine.specs.Answers.{Answered, task_label, next_label, answers_by, ◌>>=◌}
use Rattle.aa_mediate.specs.Reply.{reply}

-- what a verdict line says
abbrev pub verdict_word : Bool → List ℕ
verdict_word granted = if granted then codes " granted" else codes " denied"

-- what a verdict line says of the environment
abbrev pub scrub_word : Bool → List ℕ
scrub_word scrub = if scrub then codes " scrub" else []

-- the number of a label's policy, for a job that has a list of policies
abbrev pub policy_word : Bool → Label → List ℕ
policy_word several label = if several then codes " policy=" ++ decimal (policy_number label) else []

-- granted label=V, with the label after
unfoldable pub outcome_text : Bool → List Policy → Answer → List ℕ
outcome_text several policies answer =
    verdict_word answer.granted ++ codes " label=" ++ value (label_name policies answer.label) ++ policy_word several answer.label ++ scrub_word answer.scrub

-- TASK NUMBER granted label=V
unfoldable pub verdict_line : {M : Type 0} → Bool → List Policy → ℕ → Answered M → List ℕ
verdict_line several policies task a = decimal task ++ codes " " ++ decimal a.number ++ outcome_text several policies a.answer ++ codes "\n"

-- the audit line, if there is one, on a line of its own
unfoldable pub audit_lines : {M : Type 0} → List Policy → Label → Answered M → List ℕ
audit_lines policies before a = option_map_or (λ l. l ++ codes "\n") (line policies before a.request a.answer) []

-- the lines of a task, whose label before the first answer is given
unfoldable pub task_lines : {M : Type 0} → Bool → List Policy → ℕ → Label → List (Answered M) → List ℕ
task_lines several policies task before [] = []
task_lines several policies task before (a ∷ answers) =
    verdict_line several policies task a ++ (audit_lines policies before a ++ task_lines several policies task a.answer.label answers)

-- the lines of tasks numbered from n on, where a machine answers them
module _ {M : Type 0} (next : M → Label → Request → Label) (decide : M → Label → Request → Answer) (machine : M) where
  unfoldable pub lines_from : Bool → List Policy → ℕ → List Task → Option (List ℕ)
  lines_from several policies n [] = Some []
  lines_from several policies n (task ∷ tasks) = do
    label ← task_label policies task
    others ← lines_from several policies (n + 1) tasks
    Some (task_lines several policies n label (answers_by next decide machine task label) ++ others)

-- what `run` writes
abbrev pub run_text : Bool → List Policy → List Task → Option (List ℕ)
run_text several policies tasks = lines_from next_label reply policies several policies 0 tasks

-- a keyword is visible ASCII and stands as it is; other bytes would be written as a name is
unfoldable pub keyword_text : List ℕ → List ℕ
keyword_text kind = if list_all is_shown kind then kind else value kind

-- the full name of the profile with that number
abbrev pub profile_name : List Profile → ℕ → List ℕ
profile_name profiles n = option_map_or (λ (p : Profile). p.name) (slice_get profiles n) []

-- a passed-over rule: the name of its profile, and its keyword
unfoldable pub passed_over_line : List Profile → PassedOver → List ℕ
passed_over_line profiles rule = codes "passed over " ++ value (profile_name profiles rule.profile) ++ codes " " ++ keyword_text rule.kind ++ codes "\n"

-- how many profiles, file rules and passed-over rules there are
unfoldable pub counts_line : ℕ → ℕ → ℕ → List ℕ
counts_line profiles rules passed_over =
    codes "ok " ++ decimal profiles ++ codes " profiles " ++ decimal rules ++ codes " file rules " ++ decimal passed_over ++ codes " passed over\n"

-- how many file rules the profiles have
abbrev pub rules_of : List Profile → ℕ
rules_of profiles = sum_by (λ (p : Profile). length p.files) profiles

-- of a policy: the counts, and then each passed-over rule
abbrev pub policy_text : Policy → List ℕ
policy_text policy =
    counts_line (length policy.profiles) (rules_of policy.profiles) (length policy.passed_over) ++ flat_map (passed_over_line policy.profiles) policy.passed_over

-- which policy of a list the lines behind it are about
unfoldable pub number_line : Bool → ℕ → List ℕ
number_line several n = if several then codes "policy " ++ decimal n ++ codes "\n" else []

-- the policies numbered from n on
unfoldable pub policies_from : Bool → ℕ → List Policy → List ℕ
policies_from several n [] = []
policies_from several n (policy ∷ policies) = number_line several n ++ (policy_text policy ++ policies_from several (n + 1) policies)

-- what `check` writes
abbrev pub check_text : Bool → List Policy → List ℕ
check_text several policies = policies_from several 0 policies
