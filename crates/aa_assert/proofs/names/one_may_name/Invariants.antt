use Rattle.std.proofs.Common.{◌≡◌, take, false}
use Rattle.std.specs.List.{list_any}
use Rattle.aa_claims.specs.declared.words.ClaimWord.{ClaimWord}
use Rattle.aa_assert.specs.Names.{may_name}
use Rattle.aa_assert.proofs.names.one_may_name.Given as goal

abbrev pub invariant-loop-word : goal.invariant-loop-word
invariant-loop-word l = list_any (λ (w : ClaimWord). may_name w l.front) (take l.word-index l.words) ≡ false
