use Rattle.std.proofs.Common.{◌≡◌, ℕ, ◌≤◌, length}
use Rattle.json.specs.Json.{members, value}
use Rattle.json.proofs.Grammar.{left}
use Rattle.serde_json.specs.Data.{Members, no_members}
use Rattle.serde_json.specs.Read.{converted, of_members}
use Rattle.aa_jobs.proofs.stream.pass_members.Given as goal

abbrev pub invariant-turns : goal.invariant-turns
invariant-turns l =
    (n : ℕ) × (length l.reader ≤ n) × (found : Members)
    × (left (converted (λ ms. of_members ms no_members) (members (value l.depth) (length l.initial.reader) l.initial.reader)) ≡ left (converted (λ ms. of_members ms found) (members (value l.depth) n l.reader)))

abbrev pub decreases-turns : goal.decreases-turns
decreases-turns l = length l.reader
