use Rattle.std.proofs.Common.{◌≡◌, length}
use Rattle.aa_words.specs.Includes.{behind_name}
use Rattle.aa_words.proofs.includes.from_closing_sign.Given as goal

abbrev pub invariant-loop-rest : goal.invariant-loop-rest
invariant-loop-rest l = behind_name l.sign l.text ≡ behind_name l.sign l.rest

abbrev pub decreases-loop-rest : goal.decreases-loop-rest
decreases-loop-rest l = length l.rest
