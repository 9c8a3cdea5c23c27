-- How large a job may be.
-- Source: own.
use Rattle.std.specs.Prelude.{ℕ, ◌&&◌, List, length, map, Bool, nat_le, nat_lt}
use Rattle.std.specs.List.{list_all}
use Rattle.aa_words.specs.declared.include.Include.{Include}
use Rattle.aa_jobs.specs.declared.job.Task.{Task}
use Rattle.aa_jobs.specs.declared.job.Event.{Event}

-- the bytes of the texts, the items of each task, and the numbers
pub record Sizes : Type 0 where
  pub policies : List ℕ
  pub includes : List ℕ
  pub tasks : List ℕ
  pub states : ℕ
  pub capacity : ℕ
  pub events : ℕ

-- from 1 to 16 policies, none with over 1,048,576 bytes
abbrev pub policies_fit : Sizes → Bool
policies_fit s = nat_le 1 (length s.policies) && nat_le (length s.policies) 16 && list_all (λ n. nat_le n 1048576) s.policies

-- the policies fit, and at most 4,095 includes of as many bytes
abbrev pub texts_fit : Sizes → Bool
texts_fit s = policies_fit s && nat_le (length s.includes) 4095 && list_all (λ n. nat_le n 1048576) s.includes

-- at most 1,024 tasks, each with at most 65,536 items, and 1,000,000 events
abbrev pub lists_fit : Sizes → Bool
lists_fit s = nat_le (length s.tasks) 1024 && list_all (λ n. nat_le n 65536) s.tasks && nat_le s.events 1000000

-- the limit on states and the capacity are within their bounds
abbrev pub numbers_fit : Sizes → Bool
numbers_fit s = nat_le 1 s.states && nat_le s.states 1000000 && nat_le 1 s.capacity && nat_le s.capacity 1024

-- all sizes of a job are within their limits
abbrev pub within_limits : Sizes → Bool
within_limits s = texts_fit s && lists_fit s && numbers_fit s

-- the bytes of each include
abbrev pub include_sizes : List Include → List ℕ
include_sizes is = map (λ i. length i.text) is

-- the sizes of a job
abbrev pub job_sizes : List (List ℕ) → List Include → List Task → ℕ → ℕ → List Event → Sizes
job_sizes policies includes tasks states capacity events = record {
  policies = map length policies;
  includes = include_sizes includes;
  tasks = map (λ t. length t.requests) tasks;
  states = states;
  capacity = capacity;
  events = length events;
}

-- each event's task is there
abbrev pub tasks_there : List Event → ℕ → Bool
tasks_there events tasks = list_all (λ e. nat_lt e.task tasks) events

-- each task's policy is there
abbrev pub policies_there : List Task → ℕ → Bool
policies_there tasks policies = list_all (λ t. nat_lt t.policy policies) tasks

-- what the type of a job keeps
abbrev pub keeps_limits : List (List ℕ) → List Include → List Task → ℕ → ℕ → List Event → Bool
keeps_limits policies includes tasks states capacity events = within_limits (job_sizes policies includes tasks states capacity events) && tasks_there events (length tasks) && policies_there tasks (length policies)
