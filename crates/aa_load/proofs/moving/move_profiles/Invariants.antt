use Rattle.std.proofs.Common.{◌≡◌, ◌++◌, map, take, drop}
use Rattle.aa_load.specs.Joined.{moved}
use Rattle.aa_load.proofs.moving.move_profiles.Given as goal

abbrev pub invariant-loop-profile : goal.invariant-loop-profile
invariant-loop-profile l = l.profiles ≡ map (moved l.before) (take l.profile-index l.fn.profiles) ++ drop l.profile-index l.fn.profiles
