use Rattle.std.proofs.Common.{◌≡◌, ◌++◌, take, map}
use Rattle.std.specs.Prelude.{flat_map}
use Rattle.aa_diff.specs.Untold.{untold, untold_missing}
use Rattle.aa_diff.proofs.untold.push_all_missing.Given as goal

abbrev pub invariant-loop-profile : goal.invariant-loop-profile
invariant-loop-profile l = map untold l.found.items ≡ map untold l.initial.found.items ++ flat_map (untold_missing l.wanted l.side l.part) (take l.profile-index l.profiles)
