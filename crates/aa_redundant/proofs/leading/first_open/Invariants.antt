use Rattle.std.proofs.Common.{◌≡◌}
use Rattle.aa_redundant.specs.Leading.{first_open}
use Rattle.aa_redundant.proofs.leading.first_open.Given as goal

abbrev pub invariant-loop-number : goal.invariant-loop-number
invariant-loop-number l = l.places.items ≡ first_open l.compiled.profiles l.numbers l.unread l.number
