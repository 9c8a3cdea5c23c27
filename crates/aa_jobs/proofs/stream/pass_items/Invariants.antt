use Rattle.std.proofs.Common.{◌≡◌, ℕ, ◌≤◌, length}
use Rattle.json.specs.Json.{items, value}
use Rattle.json.proofs.Grammar.{left}
use Rattle.serde_json.specs.Read.{converted, of_items}
use Rattle.aa_jobs.proofs.stream.pass_items.Given as goal

abbrev pub invariant-turns : goal.invariant-turns
invariant-turns l =
    (n : ℕ) × (length l.reader ≤ n) × (left (converted of_items (items (value l.depth) (length l.initial.reader) l.initial.reader)) ≡ left (converted of_items (items (value l.depth) n l.reader)))

abbrev pub decreases-turns : goal.decreases-turns
decreases-turns l = length l.reader
