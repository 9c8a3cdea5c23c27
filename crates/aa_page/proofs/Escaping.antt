-- Texts as they stand on a page are read as they are.
use Rattle.std.proofs.Common.{◌≡◌, ℕ, ◌==◌, List, [], ◌∷◌, ◌++◌, true, false, inl, inr, cond, Some, None, option_map, refl, sym, subst, ap, ◌∙◌, append_assoc, append-nil, codes}
use Rattle.std.proofs.lemmas.Bool.{false≢true, cases_eq, eq-eqb, ne_eqb}
use Rattle.aa_page.specs.Escaped.{escaped_byte, escaped}
use Rattle.aa_page.specs.Reading.{behind, is_mark, read_in, TextsEndAtMarks}

-- what stands on a page is read as a byte, whatever stands behind it
IsReadAs : ℕ → List ℕ → Type 0
IsReadAs b html = (rest : List ℕ) → read_in None (html ++ rest) ≡ option_map (behind b) (read_in None rest)

-- a byte by its reference is read so, and another if it is
by_cases : (b n : ℕ) (reference other : List ℕ) → IsReadAs n reference → ((b ≡ n → ⊥) → IsReadAs b other) → IsReadAs b (cond (b == n) reference other)
unfolding IsReadAs
by_cases b n reference other is_read is_other =
    elim (cases_eq b n) as (λ _. IsReadAs b (cond (b == n) reference other))
    [ inl e ↦ rw (eq-eqb b n e) (subst (λ k. IsReadAs k reference) (sym e) is_read) | inr d ↦ rw (ne_eqb b n d) (is_other d) ]

-- a byte that stands as it is
plain : (b : ℕ) → (b == 38) ≡ false → is_mark b ≡ false → IsReadAs b (b ∷ [])
unfolding IsReadAs
plain b no_reference no_mark rest = rw no_reference (rw no_mark refl)

lt : IsReadAs 60 (codes "&lt;")
unfolding IsReadAs
lt rest = refl

gt : IsReadAs 62 (codes "&gt;")
unfolding IsReadAs
gt rest = refl

amp : IsReadAs 38 (codes "&amp;")
unfolding IsReadAs
amp rest = refl

quot : IsReadAs 34 (codes "&quot;")
unfolding IsReadAs
quot rest = refl

apostrophe : IsReadAs 39 (codes "&#39;")
unfolding IsReadAs
apostrophe rest = refl

-- a byte as it stands on a page is read as that byte
byte_is_read : (b : ℕ) → IsReadAs b (escaped_byte b)
byte_is_read b =
    by_cases b 60 _ _ lt (λ no60. by_cases b 62 _ _ gt (λ no62. by_cases b 38 _ _ amp (λ no38. by_cases b 34 _ _ quot (λ no34. by_cases b 39 _ _ apostrophe
    (λ no39. plain b (ne_eqb b 38 no38) (rw (ne_eqb b 60 no60) (rw (ne_eqb b 62 no62) (rw (ne_eqb b 34 no34) (rw (ne_eqb b 39 no39) refl)))))))))

-- so of texts
text_is_read : (text rest : List ℕ) → read_in None rest ≡ Some (record { text = []; rest = rest })
    → read_in None (escaped text ++ rest) ≡ Some (record { text = text; rest = rest })
unfolding escaped IsReadAs
text_is_read [] rest ends = ends
text_is_read (b ∷ text) rest ends =
    ap (read_in None) (append_assoc (escaped_byte b) (escaped text) rest) ∙ (byte_is_read b (escaped text ++ rest) ∙ ap (option_map (behind b)) (text_is_read text rest ends))

-- a mark begins no reference
no_reference : (b : ℕ) → is_mark b ≡ true → (b == 38) ≡ false
no_reference b h = ne_eqb b 38 (λ e. false≢true (subst (λ k. is_mark k ≡ true) e h))

before_mark : (text : List ℕ) (mark : ℕ) (rest : List ℕ) → is_mark mark ≡ true
    → read_in None (escaped text ++ mark ∷ rest) ≡ Some (record { text = text; rest = mark ∷ rest })
before_mark text mark rest h = text_is_read text (mark ∷ rest) (rw (no_reference mark h) (rw h refl))

at_end : (text : List ℕ) → read_in None (escaped text) ≡ Some (record { text = text; rest = [] })
at_end text = ap (read_in None) (sym (append-nil (escaped text))) ∙ text_is_read text [] refl

pub texts_end_at_marks : TextsEndAtMarks
texts_end_at_marks = record { before_mark = before_mark; at_end = at_end }
