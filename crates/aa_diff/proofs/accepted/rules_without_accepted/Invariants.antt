use Rattle.std.proofs.Common.{◌≡◌, map}
use Rattle.std.specs.List.{flat_map}
use Rattle.aa_files.specs.Texts.{slices}
use Rattle.aa_passed_over.specs.Apart.{apart}
use Rattle.aa_diff.specs.Accepted.{rule_left}
use Rattle.aa_diff.proofs.accepted.rules_without_accepted.Given as goal

abbrev pub invariant-loop-rule : goal.invariant-loop-rule
invariant-loop-rule l = map apart l.left.items ≡ flat_map (rule_left l.policies (slices l.lines)) (map apart l.yielded)
