use Rattle.std.proofs.Common.{◌≡◌, take, map}
use Rattle.std.specs.Prelude.{flat_map}
use Rattle.aa_passed_over.specs.Apart.{apart, apart_of}
use Rattle.aa_passed_over.proofs.apart.rules_apart.Given as goal

abbrev pub invariant-loop-profile : goal.invariant-loop-profile
invariant-loop-profile l = map apart l.found.items ≡ flat_map (apart_of l.old l.new) (take l.profile-index l.profile-items)
