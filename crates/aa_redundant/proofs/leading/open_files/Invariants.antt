use Rattle.std.proofs.Common.{◌≡◌, ◌++◌, drop}
use Rattle.aa_redundant.specs.Leading.{open_files}
use Rattle.aa_redundant.proofs.leading.open_files.Given as goal

abbrev pub invariant-loop-number : goal.invariant-loop-number
invariant-loop-number l =
    l.places.items ++ open_files l.compiled.profiles l.unread l.profile l.numbers l.number (drop l.number l.rules)
    ≡ open_files l.compiled.profiles l.unread l.profile l.numbers 0 l.rules
