use Rattle.std.proofs.Common.{◌≡◌, ℕ, List, ◌||◌, length, map}
use Rattle.aa_passed_over.specs.Listed.{listed}
use Rattle.aa_passed_over.specs.Apart.{text_of, is_among, AreSeen}
use Rattle.aa_passed_over.proofs.apart.texts_of.Given as goal

abbrev pub invariant-loop-rest : goal.invariant-loop-rest
invariant-loop-rest l = record {
  texts : List (List ℕ);
  kept : AreSeen l.seen.entries texts;
  all : (q : List ℕ) → (is_among texts q || is_among (map text_of (map listed l.rest)) q) ≡ is_among (map text_of (map listed l.rules)) q;
}

abbrev pub decreases-loop-rest : goal.decreases-loop-rest
decreases-loop-rest l = length l.rest
