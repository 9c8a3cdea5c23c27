use Rattle.std.proofs.Common.{take}
use Rattle.aa_load.specs.Joining.{nothing, Joins}
use Rattle.aa_load.specs.Loadings.{reading_data}
use Rattle.aa_load.proofs.joined.join_all.Given as goal

abbrev pub invariant-loop-number : goal.invariant-loop-number
invariant-loop-number l = Joins 0 nothing (take l.number l.all) (reading_data l.reading)
