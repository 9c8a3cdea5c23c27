use Rattle.std.proofs.Common.{◌≡◌, ◌≤◌, ◌*◌, take}
use Rattle.aa_engine.specs.Output.{rules_of}
use Rattle.aa_engine.proofs.output.count_rules.Given as goal

abbrev pub invariant-loop-profile : goal.invariant-loop-profile
invariant-loop-profile l = record {
  counted : l.count ≡ rules_of (take l.profile-index l.profiles);
  small : l.count ≤ l.profile-index * 18446744073709551616;
}
