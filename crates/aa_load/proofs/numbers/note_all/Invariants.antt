use Rattle.std.proofs.Common.{◌++◌, List, take}
use Rattle.aa_model.specs.declared.policy.Profile.{Profile}
use Rattle.aa_load.specs.Numbers.{AreNumbers, AreNew}
use Rattle.aa_load.proofs.numbers.note_all.Given as goal

abbrev pub invariant-loop-place : goal.invariant-loop-place
invariant-loop-place l = (earlier : List Profile) → AreNew l.fn.numbers.entries l.before earlier l.profiles → AreNumbers l.numbers.entries (earlier ++ take l.place l.profiles)
