use Rattle.std.proofs.Common.{ℕ, ◌-◌, ◌<◌, ◌≤◌, get_or, length}
use Rattle.aa_auto.proofs.sorted.search_below.Given as goal

abbrev pub invariant-loop-low : goal.invariant-loop-low
invariant-loop-low l = record {
  order : l.low ≤ l.high;
  bound : l.high ≤ length l.set;
  below : (k : ℕ) → k < l.low → get_or l.set k 0 < l.value;
  above : (k : ℕ) → l.high ≤ k → k < length l.set → l.value ≤ get_or l.set k 0;
}

abbrev pub decreases-loop-low : goal.decreases-loop-low
decreases-loop-low l = l.high - l.low
