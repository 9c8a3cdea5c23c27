use Rattle.std.proofs.Common.{◌≡◌, ℕ, ◌≤◌, List, Result, length}
use Rattle.json.specs.Json.{items, parse_map, value}
use Rattle.serde_json.specs.Read.{converted, of_items}
use Rattle.aa_jobs.specs.declared.job_fault.JobFault.{JobFault}
use Rattle.aa_jobs.specs.Made.{made_items, mapped}
use Rattle.aa_jobs.specs.Raw.{raw_items}
use Rattle.aa_jobs.specs.Shape.{data_list, item_shape}
use Rattle.aa_jobs.specs.Steps.{Gives, each}
use Rattle.aa_jobs.specs.Written.{WrittenItem}
use Rattle.aa_jobs.proofs.Turns.{going}
use Rattle.aa_jobs.proofs.stream.rest_of_items.Given as goal

abbrev pub invariant-turns : goal.invariant-turns
invariant-turns l =
    (n : ℕ) × (length l.reader ≤ n) × (front : Result (List WrittenItem) JobFault) × Gives raw_items l.items (mapped made_items front)
    × (parse_map (λ ds. each item_shape (data_list ds)) (converted of_items (items (value l.depth) (length l.initial.reader) l.initial.reader)) ≡ going item_shape front (converted of_items (items (value l.depth) n l.reader)))

abbrev pub decreases-turns : goal.decreases-turns
decreases-turns l = length l.reader
