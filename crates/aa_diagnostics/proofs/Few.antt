-- Patterns that an automaton of so many rows fits have no more texts than that which stand apart.
use Rattle.std.proofs.Common.{ℕ, ◌+◌, List}
use Rattle.aa_pattern.specs.declared.pattern.Pattern.{Pattern}
use Rattle.aa_auto.specs.Tables.{HasPlaces}
use Rattle.aa_auto.proofs.FewLemmas.{few_rows}
use Rattle.aa_compile.specs.Patterns.{HasAutomaton}

pub few_places : (ps : List Pattern) (limit : ℕ) → HasAutomaton ps limit → HasPlaces ps (limit + 1) → ⊥
few_places ps limit a h = few_rows ps a.0 limit a.1 a.2 h
