use Rattle.std.proofs.Common.{take}
use Rattle.std.specs.List.{AllZip}
use Rattle.aa_skipped.specs.Heads.{AreHeadsOf}
use Rattle.aa_skipped.proofs.repeated.all_heads.Given as goal

abbrev pub invariant-loop-unit : goal.invariant-loop-unit
invariant-loop-unit l = AllZip AreHeadsOf (take l.unit-index l.units) l.read.items
