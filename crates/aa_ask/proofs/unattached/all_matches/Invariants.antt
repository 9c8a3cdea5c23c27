use Rattle.std.proofs.Common.{◌≡◌, take, flat_map}
use Rattle.aa_ask.specs.Unattached.{matches_of}
use Rattle.aa_ask.proofs.unattached.all_matches.Given as goal

abbrev pub invariant-loop-profile : goal.invariant-loop-profile
invariant-loop-profile l = l.matches.items ≡ flat_map (matches_of l.path) (take l.profile-index l.profiles)
