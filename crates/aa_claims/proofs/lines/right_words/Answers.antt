use Rattle.std.proofs.Common.{List, subst}
use Rattle.aa_claims.specs.declared.words.ClaimWord.{ClaimWord}
use Rattle.aa_claims.specs.Forms.{IsFirstWrong}
use Rattle.aa_claims.specs.Lines.{Forms}
use Rattle.aa_claims.proofs.lines.right_words.Goals as goal

pub returns-in-Some-clause-refused : goal.returns-in-Some-clause-refused
returns-in-Some-clause-refused c =
    Forms c.in_ok-words.words.items c.in_ok-words.ensures.words
    (subst (λ (ws : List ClaimWord). IsFirstWrong ws c.in-Some.at c.in-Some.wrong) c.as_slice.ensures.value c.in-Some.ensures.wrong)
