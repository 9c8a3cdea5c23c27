use Rattle.std.proofs.Common.{◌≡◌, take, false}
use Rattle.std.specs.List.{list_any}
use Rattle.aa_claims.specs.declared.words.ClaimWord.{ClaimWord}
use Rattle.aa_assert.specs.Scope.{may_have}
use Rattle.aa_assert.proofs.breaking.one_may_lead_past.Given as goal

abbrev pub invariant-loop-word : goal.invariant-loop-word
invariant-loop-word l = list_any (λ (w : ClaimWord). list_any (may_have w) l.skipped) (take l.word-index l.words) ≡ false
