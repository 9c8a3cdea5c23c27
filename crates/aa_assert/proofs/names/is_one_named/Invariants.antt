use Rattle.std.proofs.Common.{◌≡◌, take, false}
use Rattle.std.specs.List.{list_any}
use Rattle.aa_claims.specs.declared.words.ClaimWord.{ClaimWord}
use Rattle.aa_assert.specs.Names.{names}
use Rattle.aa_assert.proofs.names.is_one_named.Given as goal

abbrev pub invariant-loop-word : goal.invariant-loop-word
invariant-loop-word l = list_any (λ (w : ClaimWord). names w l.name) (take l.word-index l.words) ≡ false
