use Rattle.std.proofs.Common.{◌≡◌, ◌++◌}
use Rattle.aa_changed_rules.specs.Codes.{members}
use Rattle.aa_changed_rules.proofs.codes.push_members.Given as goal

abbrev pub invariant-loop-byte : goal.invariant-loop-byte
invariant-loop-byte l = l.out.items ≡ l.initial.out.items ++ members l.set l.byte
