use Rattle.std.proofs.Common.{◌≡◌, List, take, None}
use Rattle.aa_model.specs.declared.policy.Profile.{Profile}
use Rattle.aa_load.specs.Faults.{repeated}
use Rattle.aa_load.specs.Numbers.{AreNumbers}
use Rattle.aa_load.proofs.numbers.first_repeated.Given as goal

abbrev pub invariant-loop-later : goal.invariant-loop-later
invariant-loop-later l = (earlier : List Profile) → AreNumbers l.numbers.entries earlier → repeated earlier (take l.later l.profiles) ≡ None
