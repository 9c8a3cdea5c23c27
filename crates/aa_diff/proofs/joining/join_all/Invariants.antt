use Rattle.std.proofs.Common.{◌≡◌, [], drop}
use Rattle.aa_diff.specs.Joined.{joined_all}
use Rattle.aa_diff.proofs.joining.join_all.Given as goal

abbrev pub invariant-loop-finding : goal.invariant-loop-finding
invariant-loop-finding l = joined_all l.joined.items (drop l.finding-index l.findings) ≡ joined_all [] l.findings
