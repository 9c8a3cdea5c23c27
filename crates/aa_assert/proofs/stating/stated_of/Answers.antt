use Rattle.std.proofs.Common.{List, refl, subst}
use Rattle.aa_claims.specs.declared.words.ClaimWord.{ClaimWord}
use Rattle.aa_claims.specs.Faults.{SaysAt}
use Rattle.aa_claims.proofs.Claims.{handed_on}
use Rattle.aa_assert.specs.Refused.{IsUnstated, IsUnstatedOf}
use Rattle.aa_assert.specs.Stating.{IsStatedOf}
use Rattle.aa_assert.proofs.Turning.{by_two}
use Rattle.aa_assert.proofs.Unanswered.{says_more, of_two}
use Rattle.aa_assert.proofs.stating.stated_of.Goals as goal

pub returns-in_err-asked-in-len2-up-clause-refused : goal.returns-in_err-asked-in-len2-up-clause-refused
returns-in_err-asked-in-len2-up-clause-refused c =
    let d = c.args.part in
    let ws = c.as_slice-words.result.now in
    let e = c.in_err-asked-in-len2-up.field-0.0 in
    handed_on c.from_residual.result _ _ c.from_residual.ensures.1
    (λ y p. rw p (subst (λ (x : List ClaimWord). SaysAt (IsUnstatedOf d x) e) c.as_slice-words.ensures.value
    (says_more (IsUnstated d ws c.head-item.result c.word-item.result) (IsUnstatedOf d ws) e
    (λ at fault why. of_two d ws c.head-item.result c.word-item.result at fault c.in-len2-up.len_at_least c.head-item.is c.word-item.is why)
    c.in_err-asked-in-len2-up.ensures.refused)))

pub returns-in_ok-asked-in-len2-up-clause-stated : goal.returns-in_ok-asked-in-len2-up-clause-stated
returns-in_ok-asked-in-len2-up-clause-stated c =
    record {
      line_is = refl;
      is = subst (λ (x : List ClaimWord). IsStatedOf c.args.part x c.word-item.result c.in_ok-asked-in-len2-up.asked) c.as_slice-words.ensures.value
          (by_two c.args.part c.as_slice-words.result.now c.head-item.result c.word-item.result c.in_ok-asked-in-len2-up.asked c.in-len2-up.len_at_least
          c.head-item.is c.word-item.is c.in_ok-asked-in-len2-up.ensures.stated);
    }
