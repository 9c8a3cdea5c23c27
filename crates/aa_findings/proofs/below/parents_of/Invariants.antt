use Rattle.std.proofs.Common.{◌≡◌, map, take}
use Rattle.aa_findings.specs.Places.{lists}
use Rattle.aa_findings.specs.Below.{row_of_parent}
use Rattle.aa_findings.proofs.below.parents_of.Given as goal

abbrev pub invariant-loop-profile : goal.invariant-loop-profile
invariant-loop-profile l = lists l.rows.items ≡ map row_of_parent (take l.profile-index l.profiles)
