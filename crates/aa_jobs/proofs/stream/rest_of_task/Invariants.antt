use Rattle.std.proofs.Common.{◌≡◌, ℕ, ◌≤◌, length}
use Rattle.std.specs.Prelude.{codes}
use Rattle.json.specs.Json.{members, value}
use Rattle.serde_json.specs.Data.{Members, no_members}
use Rattle.serde_json.specs.Read.{converted, of_members}
use Rattle.aa_jobs.specs.Made.{made_items_shape}
use Rattle.aa_jobs.specs.Raw.{raw_items}
use Rattle.aa_jobs.specs.Steps.{Gives}
use Rattle.aa_jobs.specs.Stream.{AgreeBut, shape_at}
use Rattle.aa_jobs.specs.Trees.{object_data}
use Rattle.aa_jobs.proofs.stream.rest_of_task.Given as goal

abbrev pub invariant-turns : goal.invariant-turns
invariant-turns l =
    (n : ℕ) × (length l.reader ≤ n) × (ms : Members) × AgreeBut (codes "requests") (object_data l.members.items) ms × Gives raw_items l.requests
    (shape_at made_items_shape (codes "requests") ms)
    × (converted (λ xs. of_members xs no_members) (members (value l.depth) (length l.initial.reader) l.initial.reader) ≡ converted (λ xs. of_members xs ms) (members (value l.depth) n l.reader))

abbrev pub decreases-turns : goal.decreases-turns
decreases-turns l = length l.reader
