-- Words that stand one behind another.
use Rattle.std.proofs.Common.{◌≡◌, ◌+◌, ◌≤◌, ℕ, List, [], ◌∷◌, ◌++◌, length, map, drop, refl, sym, subst, ap, ◌∙◌, arith}
use Rattle.std.proofs.lemmas.List.{drop_all, map-append}
use Rattle.aa_claims.specs.declared.words.ClaimWord.{ClaimWord}
use Rattle.aa_claims.specs.Words.{WordData, word_data, Next, Word, End, next_at, next_from, behind_blanks, AreBetween}

pub between_more : (text : List ℕ) (a : ℕ) (ws : List WordData) (b : ℕ) (w : WordData) (c : ℕ)
    → AreBetween text a ws b → next_from text b ≡ Word w c → AreBetween text a (ws ++ w ∷ []) c
between_more text a [] b w c e h = (c, subst (λ (x : ℕ). next_from text x ≡ Word w c) (sym e) h, refl)
between_more text a (v ∷ ws) b w c r h = (r.0, r.1, between_more text r.0 ws b w c r.2 h)

pub between_next : (text : List ℕ) (start : ℕ) (old new : List ClaimWord) (w : ClaimWord) (from behind : ℕ)
    → new ≡ old ++ w ∷ [] → AreBetween text start (map word_data old) from → next_from text from ≡ Word (word_data w) behind
    → AreBetween text start (map word_data new) behind
between_next text start old new w from behind more are next =
    subst (λ (ws : List WordData). AreBetween text start ws behind)
    (sym (ap (λ (ws : List ClaimWord). map word_data ws) more ∙ map-append word_data old (w ∷ [])))
    (between_more text start (map word_data old) from (word_data w) behind are next)

-- nothing stands behind the end
pub ends_at : (text : List ℕ) (from : ℕ) → length text ≤ from → next_from text from ≡ End
unfolding next_from
ends_at text from le = ap (next_at (behind_blanks text from)) (drop_all (behind_blanks text from) text (omega (arith, le)))
