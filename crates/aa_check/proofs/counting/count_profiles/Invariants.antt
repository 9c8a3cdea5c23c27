use Rattle.std.proofs.Common.{◌≡◌, length}
use Rattle.aa_check.specs.Counts.{IsLine, EachIsCounted}
use Rattle.aa_check.proofs.counting.count_profiles.Given as goal

abbrev pub invariant-loop-number : goal.invariant-loop-number
invariant-loop-number l = record {
  many : length l.reports.items ≡ l.number;
  line : IsLine l.unit l.count;
  each : EachIsCounted l.unit l.compiled.passed_over l.compiled.profiles l.reports.items;
}
