-- A job as a JSON text.
-- Source: own.
use Rattle.std.specs.Prelude.{ℕ, nat_le, List, [], ◌∷◌, ◌++◌, ◌&&◌, ◌||◌, codes, decimal, length, Bool, true, false, not, Option, Some, None, if◌then◌else◌, ◌==◌, ◌-◌, ◌^◌, min, count_by, sum_by}
use Rattle.std.specs.List.{list_all, list_any, position}
use Rattle.std.specs.Str.{is_utf8, bytes_eq}
use Rattle.aa_model.specs.declared.request.Request.{Request}
use Rattle.aa_text.specs.Jsons.{comma_if, json_bytes, key_text}
use Rattle.aa_logs.specs.declared.task.LogTask.{LogTask}
use Rattle.aa_notation.specs.declared.job.Include.{Include}
use Rattle.aa_notation.specs.declared.job.JobPolicy.{JobPolicy}
use Rattle.aa_notation.specs.Requests.{member}
use Rattle.aa_notation.specs.Kinds.{request_text, has_text}

-- the text of a request that a job can have, a comma before it
unfoldable pub if_text : Bool → Request → List ℕ
if_text later r = if has_text r then comma_if later ++ request_text r else []

-- requests with a comma between two, but for those that are no UTF-8
unfoldable pub requests_text : Bool → List Request → List ℕ
requests_text later [] = []
requests_text later (r ∷ rs) = if_text later r ++ requests_text (later || has_text r) rs

-- a policy has a profile of that full name
abbrev pub has_profile : List ℕ → JobPolicy → Bool
has_profile label p = list_any (λ name. bytes_eq name.items label) p.names.now

-- the number of the first policy that has a profile of that name
abbrev pub policy_of : List ℕ → List JobPolicy → Option ℕ
policy_of label ps = position (has_profile label) ps

-- the member of a policy's number
abbrev pub number_text : Option ℕ → List ℕ
number_text None = []
number_text (Some n) = codes "," ++ key_text (codes "policy") ++ decimal n

-- where there is not one policy alone, a task names the first that has its profile
unfoldable pub decider_text : List JobPolicy → List ℕ → List ℕ
decider_text ps label = if length ps == 1 then [] else number_text (policy_of label ps)

-- the text of a task
unfoldable pub task_text : List JobPolicy → LogTask → List ℕ
task_text ps t = codes "{" ++ member (codes "label") t.label.items ++ codes "," ++ key_text (codes "requests") ++ codes "[" ++ requests_text false t.requests.items ++ codes "]" ++ decider_text ps t.label.items ++ codes "}"

-- the texts of tasks, with commas
unfoldable pub tasks_text : List JobPolicy → Bool → List LogTask → List ℕ
tasks_text ps later [] = []
tasks_text ps later (t ∷ ts) = (comma_if later ++ task_text ps t) ++ tasks_text ps true ts

-- the text of an include
unfoldable pub include_text : Include → List ℕ
include_text i = json_bytes i.name.now ++ codes ":" ++ json_bytes i.text.now

-- the texts of includes, with commas
unfoldable pub includes_text : Bool → List Include → List ℕ
includes_text later [] = []
includes_text later (i ∷ is) = (comma_if later ++ include_text i) ++ includes_text true is

-- the texts of policies with a comma between two
unfoldable pub texts_text : Bool → List JobPolicy → List ℕ
texts_text later [] = []
texts_text later (p ∷ ps) = (comma_if later ++ json_bytes p.text.now) ++ texts_text true ps

-- one policy stands by itself, others as a list
unfoldable pub policies_text : List JobPolicy → List ℕ
policies_text [] = key_text (codes "policies") ++ codes "[" ++ texts_text false [] ++ codes "]"
policies_text (p ∷ []) = member (codes "policy") p.text.now
policies_text (p ∷ q ∷ ps) = key_text (codes "policies") ++ codes "[" ++ texts_text false (p ∷ q ∷ ps) ++ codes "]"

-- the policies' texts and those that they include
unfoldable pub given_text : List JobPolicy → List Include → List ℕ
given_text ps includes = codes "{" ++ policies_text ps ++ codes "," ++ key_text (codes "includes") ++ codes "{" ++ includes_text false includes ++ codes "},"

-- the tasks with what they ask, and the most states
unfoldable pub asked_text : List JobPolicy → List LogTask → ℕ → List ℕ
asked_text ps tasks states = key_text (codes "tasks") ++ codes "[" ++ tasks_text ps false tasks ++ codes "]," ++ key_text (codes "states") ++ decimal states ++ codes "}\n"

-- a job, as the engine reads it
abbrev pub job_text : List JobPolicy → List Include → List LogTask → ℕ → List ℕ
job_text ps includes tasks states = given_text ps includes ++ asked_text ps tasks states

-- how many policies a job may have
abbrev pub is_policy_count : ℕ → Bool
is_policy_count n = nat_le 1 n && nat_le n 16

-- its texts, their names and the tasks' labels are UTF-8
abbrev pub is_job_text : List JobPolicy → List Include → List LogTask → Bool
is_job_text ps includes tasks = list_all (λ (p : JobPolicy). is_utf8 p.text.now) ps && list_all (λ (i : Include). is_utf8 i.name.now && is_utf8 i.text.now) includes && list_all (λ (t : LogTask). is_utf8 t.label.items) tasks

-- how many of the tasks' requests are no UTF-8, up to the greatest number of 64 bits
abbrev pub left_out : List LogTask → ℕ
left_out tasks = min (sum_by (λ (t : LogTask). count_by (λ r. not (has_text r)) t.requests.items) tasks) (2 ^ 64 - 1)
