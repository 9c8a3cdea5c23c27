use Rattle.std.proofs.Common.{◌≡◌, ◌++◌, take, flat_map}
use Rattle.aa_ask.specs.Asked.{listed_profile}
use Rattle.aa_ask.proofs.asking.push_profiles.Given as goal

abbrev pub invariant-loop-profile : goal.invariant-loop-profile
invariant-loop-profile l = l.out.items ≡ l.initial.out.items ++ flat_map listed_profile (take l.profile-index l.profiles)
