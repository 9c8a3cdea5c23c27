use Rattle.std.proofs.Common.{◌≡◌}
use Rattle.std.specs.List.{flat_map}
use Rattle.aa_files.specs.Texts.{slices}
use Rattle.aa_diff.specs.Accepted.{finding_left}
use Rattle.aa_diff.proofs.accepted.without_accepted.Given as goal

abbrev pub invariant-loop-finding : goal.invariant-loop-finding
invariant-loop-finding l = l.left.items ≡ flat_map (finding_left l.policies (slices l.lines)) l.yielded
