use Rattle.std.proofs.Common.{◌≡◌, length}
use Rattle.aa_unclean_paths.specs.Deciding.{is_unclean}
use Rattle.aa_unclean_paths.proofs.paths.has_nothing.Given as goal

abbrev pub invariant-loop-text : goal.invariant-loop-text
invariant-loop-text l = is_unclean l.text ≡ is_unclean l.path

abbrev pub decreases-loop-text : goal.decreases-loop-text
decreases-loop-text l = length l.text
