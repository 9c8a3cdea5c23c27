use Rattle.std.proofs.Common.{◌≡◌, ℕ, ◌≤◌, List, Result, length, map}
use Rattle.json.specs.Json.{items, parse_map, value}
use Rattle.serde_json.specs.Read.{converted, of_items}
use Rattle.aa_jobs.specs.declared.job_fault.JobFault.{JobFault}
use Rattle.aa_jobs.specs.Made.{MadeTask, made_task_shape}
use Rattle.aa_jobs.specs.Raw.{raw_task}
use Rattle.aa_jobs.specs.Shape.{data_list}
use Rattle.aa_jobs.specs.Steps.{Gives, each}
use Rattle.aa_jobs.proofs.Turns.{going}
use Rattle.aa_jobs.proofs.stream.rest_of_tasks.Given as goal

abbrev pub invariant-turns : goal.invariant-turns
invariant-turns l =
    (n : ℕ) × (length l.reader ≤ n) × (front : Result (List MadeTask) JobFault) × Gives (λ v. map raw_task v.items) l.tasks front
    × (parse_map (λ ds. each made_task_shape (data_list ds)) (converted of_items (items (value l.depth) (length l.initial.reader) l.initial.reader))
    ≡ going made_task_shape front (converted of_items (items (value l.depth) n l.reader)))

abbrev pub decreases-turns : goal.decreases-turns
decreases-turns l = length l.reader
