use Rattle.std.proofs.Common.{◌≡◌, length}
use Rattle.aa_words.specs.Includes.{behind_white}
use Rattle.aa_words.proofs.includes.behind_white_space.Given as goal

abbrev pub invariant-loop-rest : goal.invariant-loop-rest
invariant-loop-rest l = behind_white l.text ≡ behind_white l.rest

abbrev pub decreases-loop-rest : goal.decreases-loop-rest
decreases-loop-rest l = length l.rest
