use Rattle.std.proofs.Common.{◌≡◌, ◌++◌, map, take}
use Rattle.std.specs.List.{flat_map}
use Rattle.aa_files.specs.Texts.{texts}
use Rattle.aa_lint.specs.Telling.{telling, told_wanted}
use Rattle.aa_lint.proofs.telling.push_each_told.Given as goal

abbrev pub invariant-loop-finding : goal.invariant-loop-finding
invariant-loop-finding l =
    map telling l.told.items
    ≡ map telling l.fn.told.items ++ flat_map (told_wanted (texts l.except) l.profiles l.profile l.unit l.places) (take l.finding-index l.findings)
