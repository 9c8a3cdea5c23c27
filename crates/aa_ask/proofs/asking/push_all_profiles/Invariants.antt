use Rattle.std.proofs.Common.{◌≡◌, ◌++◌, take, flat_map}
use Rattle.aa_ask.specs.Asked.{listed_profiles}
use Rattle.aa_ask.proofs.asking.push_all_profiles.Given as goal

abbrev pub invariant-loop-compiled : goal.invariant-loop-compiled
invariant-loop-compiled l = l.out.items ≡ l.initial.out.items ++ flat_map listed_profiles (take l.compiled-index l.policies)
