use Rattle.std.proofs.Common.{◌≡◌, map}
use Rattle.aa_diff.specs.Unclean.{told_unclean}
use Rattle.aa_diff.proofs.unclean.all_told_unclean.Given as goal

abbrev pub invariant-loop-finding : goal.invariant-loop-finding
invariant-loop-finding l = l.told.items ≡ map (told_unclean l.unclean) l.yielded
