use Rattle.std.proofs.Common.{◌≡◌, ◌++◌, map, take}
use Rattle.aa_model.specs.Lawful.{names_of}
use Rattle.aa_representatives.specs.Names.{literal_of, items_of}
use Rattle.aa_representatives.proofs.names.add_names.Given as goal

abbrev pub invariant-loop-profile : goal.invariant-loop-profile
invariant-loop-profile l = map items_of l.patterns.items ≡ map items_of l.fn.patterns.items ++ map literal_of (names_of (take l.profile-index l.profiles))
