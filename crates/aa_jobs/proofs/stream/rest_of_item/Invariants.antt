use Rattle.std.proofs.Common.{◌≡◌, ℕ, ◌≤◌, length}
use Rattle.json.specs.Json.{members, value}
use Rattle.serde_json.specs.Data.{Members, no_members}
use Rattle.serde_json.specs.Read.{converted, of_members}
use Rattle.aa_jobs.specs.Items.{Looked, item_object}
use Rattle.aa_jobs.proofs.stream.rest_of_item.Given as goal

abbrev pub invariant-turns : goal.invariant-turns
invariant-turns l =
    (n : ℕ) × (length l.reader ≤ n) × (ms : Members) × Looked l.known (item_object l.room.items) ms
    × (converted (λ xs. of_members xs no_members) (members (value l.depth) (length l.initial.reader) l.initial.reader) ≡ converted (λ xs. of_members xs ms) (members (value l.depth) n l.reader))

abbrev pub decreases-turns : goal.decreases-turns
decreases-turns l = length l.reader
