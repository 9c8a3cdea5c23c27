-- One lane more is shut.
use Rattle.std.proofs.Common.{◌≡◌, ◌≢◌, ℕ, ◌+◌, ◌<◌, ◌==◌, true, false, List, length, get_or, set, sym, refl, ◌∙◌, arith, subst, eqb-true, false-eqb}
use Rattle.std.proofs.lemmas.List.{get_or_default, get_or-set_other, get_or-set_same}

-- what holds of the first i of four lists holds of one more, which is written
pub one_more : {L X : Type 0} (R : L → X → X → ℕ → Type 0) (ls : List L) (olds news : List X) (counts : List ℕ) (i : ℕ) (l : L) (old new : X) (n : ℕ)
    → i < length ls → i < length olds → i < length news → i < length counts → l ≡ get_or ls i l → get_or news i old ≡ get_or olds i old → R l (get_or news i old) new n
    → ((k : ℕ) (e : L) (d : X) → k < i → R (get_or ls k e) (get_or olds k d) (get_or news k d) (get_or counts k 0))
    → (k : ℕ) (e : L) (d : X) → k < i + 1 → R (get_or ls k e) (get_or olds k d) (get_or (set news i new) k d) (get_or (set counts i n) k 0)
one_more R ls olds news counts i l old new n in_ls in_olds in_news in_counts is stayed one before k e d lt =
    elim (k == i) as (λ b. (k == i) ≡ b → R (get_or ls k e) (get_or olds k d) (get_or (set news i new) k d) (get_or (set counts i n) k 0)) [
      | true ↦ λ q.
          let at : i ≡ k = sym (eqb-true _ _ q) in
          let lane : l ≡ get_or ls i e = is ∙ get_or_default ls i l e in_ls in
          let shutter : get_or news i old ≡ get_or olds i d = stayed ∙ get_or_default olds i old d in_olds in
          let here : R (get_or ls i e) (get_or olds i d) (get_or (set news i new) i d) (get_or (set counts i n) i 0) =
          subst (λ a. R a (get_or olds i d) (get_or (set news i new) i d) (get_or (set counts i n) i 0)) lane
          (subst (λ a. R l a (get_or (set news i new) i d) (get_or (set counts i n) i 0)) shutter
          (subst (λ a. R l (get_or news i old) a (get_or (set counts i n) i 0)) (sym (get_or-set_same news i new d in_news))
          (subst (λ a. R l (get_or news i old) new a) (sym (get_or-set_same counts i n 0 in_counts)) one))) in
          subst (λ j. R (get_or ls j e) (get_or olds j d) (get_or (set news i new) j d) (get_or (set counts i n) j 0)) at here
      | false ↦ λ q.
          let ne : k ≢ i = false-eqb _ _ (sym q) in
          rw (get_or-set_other news i k new d ne, get_or-set_other counts i k n 0 ne) (before k e d (omega arith))
    ] refl
