use Rattle.std.proofs.Common.{◌≡◌, ◌<◌, ◌≤◌, ℕ, false, get_or}
use Rattle.aa_pattern.proofs.flags.copy_flags.Given as goal

abbrev pub invariant-loop-place : goal.invariant-loop-place
invariant-loop-place l = record {
  within : (k : ℕ) → l.fn.span.first ≤ k → k < l.place → get_or l.flags k false ≡ get_or l.from k false;
  before : (k : ℕ) → k < l.fn.span.first → get_or l.flags k false ≡ get_or l.fn.flags k false;
  behind : (k : ℕ) → l.place ≤ k → get_or l.flags k false ≡ get_or l.fn.flags k false;
  past : (k : ℕ) → l.fn.span.end ≤ k → get_or l.flags k false ≡ get_or l.fn.flags k false;
}
