use Rattle.std.proofs.Common.{◌≡◌, ◌++◌, take, flat_map}
use Rattle.aa_ask.specs.Unattached.{rival_name}
use Rattle.aa_ask.proofs.unattached.push_rivals.Given as goal

abbrev pub invariant-loop-profile : goal.invariant-loop-profile
invariant-loop-profile l = l.out.items ≡ l.initial.out.items ++ flat_map (rival_name l.path l.literal l.front) (take l.profile-index l.profiles)
