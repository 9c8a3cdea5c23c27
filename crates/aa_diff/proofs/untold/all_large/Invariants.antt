use Rattle.std.proofs.Common.{◌≡◌, take, map}
use Rattle.aa_diff.specs.Untold.{large, all_large}
use Rattle.aa_diff.proofs.untold.all_large.Given as goal

abbrev pub invariant-loop-labels : goal.invariant-loop-labels
invariant-loop-labels l = map large l.found.items ≡ all_large l.wanted l.policies l.limit (take l.labels-index l.untold)
