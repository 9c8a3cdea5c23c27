use Rattle.std.proofs.Common.{List, ℕ, length, take}
use Rattle.std.specs.List.Sorted.{IsStrictlyIncreasing}
use Rattle.aa_auto.specs.Finals.{AreFinals, ListsFinals}
use Rattle.aa_auto.proofs.finals.numbers_at.Given as goal

abbrev pub invariant-loop-position : goal.invariant-loop-position
invariant-loop-position l =
    (ends : List ℕ) → IsStrictlyIncreasing ends → IsStrictlyIncreasing l.set → AreFinals ends (length ends) (length l.finals) l.finals →
    ListsFinals ends (take l.position-index l.set) l.numbers.items
