use Rattle.std.proofs.Common.{◌≡◌, ◌++◌, drop}
use Rattle.aa_explain.specs.Told.{speaking_from}
use Rattle.aa_explain.proofs.told.speaking.Given as goal

abbrev pub invariant-loop-number : goal.invariant-loop-number
invariant-loop-number l = l.told.items ++ speaking_from l.number (drop l.number l.sayings) ≡ speaking_from 0 l.sayings
