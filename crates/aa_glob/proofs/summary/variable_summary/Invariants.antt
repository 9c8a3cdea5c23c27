use Rattle.std.proofs.Common.{ℕ, ◌≤◌, ◌++◌, List, map, drop}
use Rattle.aa_glob.specs.Variables.{Variable}
use Rattle.aa_glob.specs.Expansions.{in_turn, outcome}
use Rattle.aa_glob.specs.Settled.{AreEnds, plus}
use Rattle.aa_glob.specs.Known.{AreTextsKnown, AreRight}
use Rattle.aa_glob.proofs.Summaries.{GoesOn}
use Rattle.aa_glob.proofs.summary.variable_summary.Given as goal

abbrev pub invariant-loop-value : goal.invariant-loop-value
invariant-loop-value l = record {
  known : AreTextsKnown l.done.entries (map (λ v. v.items) (drop l.value-index l.values));
  small : l.summary.count ≤ 1025;
  goes : (depth : ℕ) (vars : List Variable) → AreRight depth vars l.done.entries →
      GoesOn plus (in_turn (outcome depth vars) (map (λ v. v.items) l.values)) (in_turn (outcome depth vars) (map (λ v. v.items) (drop l.value-index l.values))) l.summary;
  ends : (depth : ℕ) (vars : List Variable) → AreRight depth vars l.done.entries → (es : List ℕ) →
      AreEnds vars l.summary.count (map (λ v. v.items) (drop l.value-index l.values)) es → AreEnds vars 0 (map (λ v. v.items) l.values) (l.ends.items ++ es);
}
