use Rattle.std.proofs.Common.{◌≡◌, ◌++◌, take, map}
use Rattle.std.specs.Prelude.{flat_map}
use Rattle.aa_diff.specs.Untold.{untold, undecided_of}
use Rattle.aa_diff.proofs.untold.push_undecided.Given as goal

abbrev pub invariant-loop-profile : goal.invariant-loop-profile
invariant-loop-profile l = map untold l.found.items ≡ map untold l.initial.found.items ++ flat_map (undecided_of l.wanted l.old l.new) (take l.profile-index l.profile-items)
