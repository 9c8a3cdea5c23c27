use Rattle.std.proofs.Common.{◌≡◌, ◌<◌, ℕ, length, take, get_or}
use Rattle.aa_check.specs.Counts.{passed_in}
use Rattle.aa_check.proofs.counting.passed_of.Given as goal

abbrev pub invariant-loop-rule : goal.invariant-loop-rule
invariant-loop-rule l = record {
  many : length l.counts.items ≡ l.many;
  each : (n : ℕ) → n < l.many → get_or l.counts.items n 0 ≡ passed_in (take l.rule-index l.rules) n;
}
