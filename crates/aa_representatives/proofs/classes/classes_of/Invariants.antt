use Rattle.std.proofs.Common.{◌≡◌, Some}
use Rattle.std.specs.List.{slice_get}
use Rattle.aa_model.specs.declared.policy.Profile.{Profile}
use Rattle.aa_representatives.specs.Classes.{AreClasses}
use Rattle.aa_representatives.proofs.classes.classes_of.Given as goal

abbrev pub invariant-loop-region : goal.invariant-loop-region
invariant-loop-region l = (p : Profile) → slice_get l.compiled.profiles l.number ≡ Some p → AreClasses p.files l.regions l.region-index l.classes.items
