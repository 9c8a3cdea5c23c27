use Rattle.std.proofs.Common.{◌≡◌}
use Rattle.aa_ask.specs.Naming.{first_named}
use Rattle.aa_ask.proofs.naming.profiles_matched.Given as goal

abbrev pub invariant-loop-number : goal.invariant-loop-number
invariant-loop-number l = l.labels.items ≡ first_named l.policies l.pattern.items.items l.number
