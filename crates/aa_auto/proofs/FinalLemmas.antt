-- Where patterns end, one more pattern or position at a time.
use Rattle.std.proofs.Common.{Contains, ◌≡◌, ◌≢◌, ℕ, ◌+◌, ◌≤◌, ◌<◌, ◌↔◌, ◌⊎◌, Option, Some, None, List, [], ◌∷◌}
use Rattle.std.proofs.Common.{◌++◌, length, get_or, take, sym, ap, ◌∙◌, subst, inl, inr, ⊎_elim, arith}
use Rattle.std.specs.Option.{option_to_list}
use Rattle.std.specs.List.Sorted.{IsStrictlyIncreasing}
use Rattle.std.proofs.Math.ListN.{set}
use Rattle.std.proofs.lemmas.List.{take_more, take_all, append-nil, get_or_default, get_or-take, length-take-le, length-set, get_or-set_same, get_or-set_other}
use Rattle.std.proofs.lemmas.List.Elements.{Contains-push, Contains-push_cases, Contains-append_left}
use Rattle.std.proofs.lemmas.Bool.{cases_lt}
use Rattle.aa_auto.specs.Finals.{AreFinals, ListsFinals}
use Rattle.aa_auto.proofs.SortedLemmas.{rises, contains_at, at_of, rising_push}

either_same : (p q : ℕ) → (p ≡ q) ⊎ (p ≢ q)
either_same p q = ⊎_elim (λ (l : p < q). inr (λ e. omega (arith, e, l))) (λ (g : q ≤ p). ⊎_elim (λ (l : q < p). inr (λ e. omega (arith, e, l))) (λ (h : p ≤ q). inl (omega arith)) (cases_lt q p)) (cases_lt p q)

some_same : (m n : ℕ) → Some m ≡ Some n → m ≡ n
some_same m n e = cc e

pub finals_more : (ends : List ℕ) (k many end : ℕ) (finals : List (Option ℕ)) → IsStrictlyIncreasing ends → k < length ends → end ≡ get_or ends k 0 → end < many → AreFinals ends k many finals →
    AreFinals ends (k + 1) many (set finals end (Some k))
finals_more ends k many end finals up lt is within all = record {
  count = length-set finals end (Some k) ∙ all.count;
  exact = λ p n. ⊎_elim (λ (e : p ≡ end). subst (λ z. (get_or (set finals end (Some k)) z None ≡ Some n) ↔ ((n < k + 1) × (get_or ends n 0 ≡ z))) (sym e) (here n)) (λ ne. other p n ne) (either_same p end);
}
  where
    now : get_or (set finals end (Some k)) end None ≡ Some k
    now = get_or-set_same finals end (Some k) None (omega (arith, within, all.count))

    here : (n : ℕ) → (get_or (set finals end (Some k)) end None ≡ Some n) ↔ ((n < k + 1) × (get_or ends n 0 ≡ end))
    here n = (
      λ e. let q : k ≡ n = some_same k n (sym now ∙ e) in (omega (arith, q), subst (λ z. get_or ends z 0 ≡ end) q (sym is)),
      λ q. ⊎_elim
          (λ (l : n < k). absurd (omega (arith, rises ends up n k l lt, q.1, is)))
          (λ (g : k ≤ n). let e : k ≡ n = omega (arith, q.0) in now ∙ ap (λ z. Some z) e)
          (cases_lt n k),
    )

    other : (p n : ℕ) → p ≢ end → (get_or (set finals end (Some k)) p None ≡ Some n) ↔ ((n < k + 1) × (get_or ends n 0 ≡ p))
    other p n ne =
        let same : get_or (set finals end (Some k)) p None ≡ get_or finals p None = get_or-set_other finals end p (Some k) None ne in (
          λ e. let q = (all.exact p n).0 (sym same ∙ e) in (omega (arith, q.0), q.1),
          λ q. ⊎_elim
              (λ (l : n < k). same ∙ (all.exact p n).1 (l, q.1))
              (λ (g : k ≤ n). let e : n ≡ k = omega (arith, q.0) in absurd (ne (sym q.1 ∙ ap (λ z. get_or ends z 0) e ∙ sym is)))
              (cases_lt n k),
        )

-- one more position of the set
module _ (ends positions : List ℕ) (k v many : ℕ) (finals : List (Option ℕ)) (numbers : List ℕ) (up : IsStrictlyIncreasing ends) (rising : IsStrictlyIncreasing positions)
    (lt : k < length positions) (is : v ≡ get_or positions k 0) (all : AreFinals ends (length ends) many finals) (front : ListsFinals ends (take k positions) numbers) where
  below : (x : ℕ) → Contains (take k positions) x → x < v
  below x c =
      let q = at_of (take k positions) x c in
      let few : q.0 < k = omega (arith, q.1, length-take-le k positions (omega arith)) in
      omega (arith, rises positions rising q.0 k few lt, is, sym q.2, get_or-take k positions q.0 0 few)

  absent : get_or finals v None ≡ None → ListsFinals ends (take k positions ++ v ∷ []) numbers
  absent e = record {
    rising = front.rising;
    exact = λ n. (
      λ c. let q = (front.exact n).0 c in (q.0, Contains-append_left (take k positions) (v ∷ []) (get_or ends n 0) q.1),
      λ q. ⊎_elim
          (λ c. (front.exact n).1 (q.0, c))
          (λ (s : v ≡ get_or ends n 0). absurd (differ (sym e ∙ (all.exact v n).1 (q.0, sym s))))
          (Contains-push_cases (take k positions) v (get_or ends n 0) q.1),
    );
  }
    where
      differ : {n : ℕ} → None ≡ Some n → ⊥
      differ h = cc h

  present : (m : ℕ) → get_or finals v None ≡ Some m → ListsFinals ends (take k positions ++ v ∷ []) (numbers ++ m ∷ [])
  present m e = record {
    rising = rising_push numbers m front.rising (λ i d l.
        let there = (front.exact (get_or numbers i d)).0 (contains_any numbers i d l) in
        let less = below (get_or ends (get_or numbers i d) 0) there.1 in
        ⊎_elim (λ (o : get_or numbers i d < m). o)
        (λ (g : m ≤ get_or numbers i d). absurd (⊎_elim
        (λ (h : m < get_or numbers i d). omega (arith, rises ends up m (get_or numbers i d) h there.0, less, at.1))
        (λ (h : get_or numbers i d ≤ m). let s : get_or numbers i d ≡ m = omega arith in omega (arith, less, ap (λ z. get_or ends z 0) s, at.1))
        (cases_lt m (get_or numbers i d))))
        (cases_lt (get_or numbers i d) m));
    exact = λ n. (
      λ c. ⊎_elim
          (λ o. let q = (front.exact n).0 o in (q.0, Contains-append_left (take k positions) (v ∷ []) (get_or ends n 0) q.1))
          (λ (s : m ≡ n). subst (λ z. (z < length ends) × Contains (take k positions ++ v ∷ []) (get_or ends z 0)) s
          (at.0, subst (λ z. Contains (take k positions ++ v ∷ []) z) (sym at.1) (Contains-push (take k positions) v)))
          (Contains-push_cases numbers m n c),
      λ q. ⊎_elim
          (λ c. Contains-append_left numbers (m ∷ []) n ((front.exact n).1 (q.0, c)))
          (λ (s : v ≡ get_or ends n 0).
          let w : m ≡ n = some_same m n (sym e ∙ (all.exact v n).1 (q.0, sym s)) in
          subst (λ z. Contains (numbers ++ m ∷ []) z) w (Contains-push numbers m))
          (Contains-push_cases (take k positions) v (get_or ends n 0) q.1),
    );
  }
    where
      at : (m < length ends) × (get_or ends m 0 ≡ v)
      at = (all.exact v m).0 e

      contains_any : (xs : List ℕ) (i d : ℕ) → i < length xs → Contains xs (get_or xs i d)
      contains_any xs i d l = contains_at xs i (get_or xs i d) l (get_or_default xs i 0 d l)

  either_option : (o : Option ℕ) → get_or finals v None ≡ o → ListsFinals ends (take k positions ++ v ∷ []) (numbers ++ option_to_list o)
  either_option None e = subst (λ z. ListsFinals ends (take k positions ++ v ∷ []) z) (sym (append-nil numbers)) (absent e)
  either_option (Some m) e = present m e

  pub numbers_more : (o : Option ℕ) (new : List ℕ) → get_or finals v None ≡ o → new ≡ numbers ++ option_to_list o → ListsFinals ends (take (k + 1) positions) new
  numbers_more o new e made =
      subst (λ z. ListsFinals ends z new) (sym (take_more positions k 0 lt ∙ ap (λ z. take k positions ++ z ∷ []) (sym is)))
      (subst (λ z. ListsFinals ends (take k positions ++ v ∷ []) z) (sym made) (either_option o e))

pub numbers_all : (ends positions numbers : List ℕ) (k : ℕ) → length positions ≤ k → ListsFinals ends (take k positions) numbers → ListsFinals ends positions numbers
numbers_all ends positions numbers k le all = subst (λ z. ListsFinals ends z numbers) (take_all k positions le) all
