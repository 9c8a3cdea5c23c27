use Rattle.std.proofs.Common.{◌≡◌, ◌++◌, drop}
use Rattle.aa_redundant.specs.Leading.{open_changes}
use Rattle.aa_redundant.proofs.leading.open_changes.Given as goal

abbrev pub invariant-loop-number : goal.invariant-loop-number
invariant-loop-number l = l.places.items ++ open_changes l.unread l.numbers l.number (drop l.number l.rules) ≡ open_changes l.unread l.numbers 0 l.rules
