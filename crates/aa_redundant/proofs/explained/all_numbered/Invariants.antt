use Rattle.std.proofs.Common.{◌≡◌, map, take}
use Rattle.aa_redundant.specs.Told.{telling, all_numbered}
use Rattle.aa_redundant.proofs.explained.all_numbered.Given as goal

abbrev pub invariant-loop-number : goal.invariant-loop-number
invariant-loop-number l = map telling l.rules.items ≡ all_numbered l.units l.places (take l.number-index l.numbers)
