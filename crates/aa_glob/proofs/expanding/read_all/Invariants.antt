use Rattle.std.proofs.Common.{◌≡◌, ◌≤◌, ℕ, List, map, drop, length}
use Rattle.aa_glob.specs.Reading.{spelled}
use Rattle.aa_glob.specs.Expansions.{expansions, outcome_of, Texts}
use Rattle.aa_glob.proofs.ExpandSteps.{behind_read}
use Rattle.aa_glob.proofs.expanding.read_all.Given as goal

abbrev pub invariant-loop-number : goal.invariant-loop-number
invariant-loop-number l =
    (most : ℕ) (ts : List (List ℕ)) → outcome_of (length l.done.entries) l.vars l.raw ≡ Texts most ts → most ≤ 1024 → length ts ≡ l.count →
    behind_read (map (λ p. spelled p.items.items) l.patterns.items) (expansions (drop l.number ts)) ≡ expansions ts
