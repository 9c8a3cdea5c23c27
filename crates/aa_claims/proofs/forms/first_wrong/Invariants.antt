use Rattle.aa_claims.specs.Forms.{AreRight}
use Rattle.aa_claims.proofs.forms.first_wrong.Given as goal

abbrev pub invariant-loop-number : goal.invariant-loop-number
invariant-loop-number l = AreRight l.words l.number
