use Rattle.std.proofs.Common.{◌≡◌, ◌++◌, take, flat_map}
use Rattle.aa_check.specs.Printed.{profile_line}
use Rattle.aa_check.proofs.checked.push_profiles.Given as goal

abbrev pub invariant-loop-profile : goal.invariant-loop-profile
invariant-loop-profile l = l.out.items ≡ l.initial.out.items ++ flat_map profile_line (take l.profile-index l.profiles)
