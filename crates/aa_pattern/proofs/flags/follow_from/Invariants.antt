use Rattle.std.proofs.Common.{◌≡◌, ◌+◌, ◌<◌, ◌≤◌, ℕ, false, get_or}
use Rattle.aa_pattern.proofs.FlagSteps.{IsAt}
use Rattle.aa_pattern.proofs.flags.follow_from.Given as goal

abbrev pub invariant-loop-i : goal.invariant-loop-i
invariant-loop-i l = record {
  at : IsAt l.item l.text l.fn.flags l.flags l.before l.i;
  before : (k : ℕ) → k < l.span.first → get_or l.flags k false ≡ false;
  behind : (k : ℕ) → l.end ≤ k → k ≤ l.i → get_or l.flags k false ≡ false;
  last : l.end ≤ l.i + 1;
}
