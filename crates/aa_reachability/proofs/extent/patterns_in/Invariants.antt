use Rattle.std.proofs.Common.{◌≡◌, ◌≤◌, ◌<◌, length, take}
use Rattle.aa_compile.specs.Rows.{patterns_of}
use Rattle.aa_reachability.proofs.extent.patterns_in.Given as goal

abbrev pub invariant-loop-rule : goal.invariant-loop-rule
invariant-loop-rule l = record {
  bounded : l.count ≤ 65536;
  exact : l.count < 65536 → length (patterns_of (take l.rule-index l.rules)) ≡ l.count;
}
