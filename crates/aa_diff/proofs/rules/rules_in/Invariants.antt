use Rattle.std.proofs.Common.{◌≡◌, take}
use Rattle.aa_diff.specs.Rules.{rules_in}
use Rattle.aa_diff.proofs.rules.rules_in.Given as goal

abbrev pub invariant-loop-number : goal.invariant-loop-number
invariant-loop-number l = l.rules.items ≡ rules_in l.unit l.spots (take l.number-index l.numbers)
