-- Places that are known by their keys.
use Rattle.std.proofs.Common.{◌≡◌, ℕ, suc, ◌+◌, List, [], ◌∷◌, ◌++◌, length, Bool, true, false, true≢false, cond, not, filter, Option, Some, None, refl, sym, ap, ◌∙◌, subst, ⊎_elim, append-nil}
use Rattle.std.specs.Prelude.{◌==◌, ◌&&◌, ◌||◌, nat_lt, nat_eq, unwrap_or, position}
use Rattle.std.specs.List.{list_any, AllZip, position_or_len, prefix_len}
use Rattle.std.specs.Str.{bytes_eq}
use Rattle.std.specs.Borrow.{Bor}
use Rattle.std.proofs.lemmas.Bool.{cases_Bool, and_left, and_right, eqb-true}
use Rattle.std.proofs.lemmas.List.Elements.{filter-append}
use Rattle.std.proofs.lemmas.Slice.Eq.{bytes_eq-Decides}
use Rattle.aa_files.specs.declared.unit.Unit as unit
use Rattle.aa_redundant.specs.declared.places.RulePlace.{RulePlace}
use Rattle.aa_redundant.specs.Places.{path_at, same_place, distinct}
use Rattle.aa_redundant.specs.Known.{IsKeyOf, AreKeys}

-- ---- one element more

module _ {X : Type 0} (same : X → X → Bool) (congr : (x y z : X) → same y z ≡ true → same x y ≡ same x z) where
  abbrev other : X → X → Bool
  other x y = not (same x y)

  -- what a filter leaves out isn't y
  kept : (x y : X) → same x y ≡ false → (zs : List X) → list_any (same y) (filter (other x) zs) ≡ list_any (same y) zs
  kept x y e [] = refl
  kept x y e (z ∷ zs) = ⊎_elim
      (λ (out : same x z ≡ true).
      let no : same y z ≡ false = ⊎_elim (λ (t : same y z ≡ true). absurd (true≢false (sym out ∙ sym (congr x y z t) ∙ e))) (λ (f : same y z ≡ false). f) (cases_Bool (same y z)) in
      rw (out, no) (kept x y e zs))
      (λ (stays : same x z ≡ false). rw stays (ap (λ b. same y z || b) (kept x y e zs)))
      (cases_Bool (same x z))

  -- y stands behind the others, unless it is among them
  abbrev pub with_one : X → List X → List X
  with_one y ys = cond (list_any (same y) ys) ys (ys ++ y ∷ [])

  module _ (flip : (x y : X) → same x y ≡ same y x) where
    filtered : (x y : X) (ys : List X) → x ∷ filter (other x) (with_one y ys) ≡ with_one y (x ∷ filter (other x) ys)
    filtered x y ys = ⊎_elim
        (λ (is : same x y ≡ true).
        let back : same y x ≡ true = flip y x ∙ is in ⊎_elim
        (λ (among : list_any (same y) ys ≡ true). rw (back, among) refl)
        (λ (new : list_any (same y) ys ≡ false). rw (back, new) (ap (λ l. x ∷ l) (filter-append (other x) ys (y ∷ []) ∙ rw is (append-nil (filter (other x) ys)))))
        (cases_Bool (list_any (same y) ys)))
        (λ (apart : same x y ≡ false).
        let back : same y x ≡ false = flip y x ∙ apart in ⊎_elim
        (λ (among : list_any (same y) ys ≡ true). rw (back, kept x y apart ys, among) refl)
        (λ (new : list_any (same y) ys ≡ false). rw (back, kept x y apart ys, new) (ap (λ l. x ∷ l) (filter-append (other x) ys (y ∷ []) ∙ rw apart refl)))
        (cases_Bool (list_any (same y) ys)))
        (cases_Bool (same x y))

    -- what is among them is so where each stands once
    pub distinct_any : (y : X) (xs : List X) → list_any (same y) xs ≡ true → list_any (same y) (distinct same xs) ≡ true
    distinct_any y [] e = e
    distinct_any y (x ∷ xs) e = ⊎_elim
        (λ (is : same x y ≡ true).
        let back : same y x ≡ true = flip y x ∙ is in
        ap (λ (b : Bool). b || list_any (same y) (filter (other x) (distinct same xs))) back)
        (λ (apart : same x y ≡ false).
        let back : same y x ≡ false = flip y x ∙ apart in
        let behind : list_any (same y) xs ≡ true = ap (λ (b : Bool). b || list_any (same y) xs) (sym back) ∙ e in
        ap (λ (b : Bool). b || list_any (same y) (filter (other x) (distinct same xs))) back
        ∙ kept x y apart (distinct same xs) ∙ distinct_any y xs behind)
        (cases_Bool (same x y))

    pub distinct_push : (xs : List X) (y : X) → distinct same (xs ++ y ∷ []) ≡ with_one y (distinct same xs)
    distinct_push [] y = refl
    distinct_push (x ∷ xs) y = ap (λ l. x ∷ filter (other x) l) (distinct_push xs y) ∙ filtered x y (distinct same xs)

-- ---- places that are the same

parts : (a b : Bool) → (a && b) ≡ true → (a ≡ true) × (b ≡ true)
parts true b e = (refl, e)
parts false b e = absurd (true≢false (sym e))

not_new : (b : Bool) → not b ≡ false → b ≡ true
not_new true e = refl
not_new false e = absurd (true≢false e)

is_not : (b : Bool) → not b ≡ true → b ≡ false
is_not true e = absurd (true≢false (sym e))
is_not false e = refl

bytes_flip : (xs ys : List ℕ) → bytes_eq xs ys ≡ bytes_eq ys xs
bytes_flip xs ys = ⊎_elim
    (λ (t : bytes_eq xs ys ≡ true). t ∙ sym ((bytes_eq-Decides ys xs).1 (sym ((bytes_eq-Decides xs ys).0 t))))
    (λ (f : bytes_eq xs ys ≡ false). ⊎_elim
    (λ (u : bytes_eq ys xs ≡ true). absurd (true≢false (sym ((bytes_eq-Decides xs ys).1 (sym ((bytes_eq-Decides ys xs).0 u))) ∙ f)))
    (λ (g : bytes_eq ys xs ≡ false). f ∙ sym g)
    (cases_Bool (bytes_eq ys xs)))
    (cases_Bool (bytes_eq xs ys))

nat_flip : (m n : ℕ) → (m == n) ≡ (n == m)
nat_flip m n = ⊎_elim
    (λ (t : (m == n) ≡ true). ap (λ (k : ℕ). m == k) (sym (eqb-true m n t)) ∙ ap (λ (k : ℕ). k == m) (eqb-true m n t))
    (λ (f : (m == n) ≡ false). ⊎_elim
    (λ (u : (n == m) ≡ true). absurd (true≢false (sym u ∙ ap (λ (k : ℕ). k == m) (eqb-true n m u) ∙ ap (λ (k : ℕ). m == k) (sym (eqb-true n m u)) ∙ f)))
    (λ (g : (n == m) ≡ false). f ∙ sym g)
    (cases_Bool (n == m)))
    (cases_Bool (m == n))

module _ (us : List unit.Unit) where
  pub place_congr : (p q r : RulePlace) → same_place us q r ≡ true → same_place us p q ≡ same_place us p r
  place_congr p q r e =
      let both = parts (bytes_eq (path_at us q) (path_at us r)) (q.at.byte == r.at.byte) e in
      ap (λ (path : List ℕ). bytes_eq (path_at us p) path && p.at.byte == q.at.byte) ((bytes_eq-Decides (path_at us q) (path_at us r)).0 both.0)
      ∙ ap (λ (byte : ℕ). bytes_eq (path_at us p) (path_at us r) && p.at.byte == byte) (eqb-true q.at.byte r.at.byte both.1)

  place_flip : (p q : RulePlace) → same_place us p q ≡ same_place us q p
  place_flip p q =
      ap (λ (b : Bool). b && p.at.byte == q.at.byte) (bytes_flip (path_at us p) (path_at us q))
      ∙ ap (λ (b : Bool). bytes_eq (path_at us q) (path_at us p) && b) (nat_flip p.at.byte q.at.byte)

  -- the places of a list, each once, one more
  pub places_push : (ps : List RulePlace) (p : RulePlace) → distinct (same_place us) (ps ++ p ∷ []) ≡ with_one (same_place us) place_congr p (distinct (same_place us) ps)
  places_push = distinct_push (same_place us) place_congr place_flip

  pub place_any : (p : RulePlace) (ps : List RulePlace) → list_any (same_place us p) ps ≡ true
      → list_any (same_place us p) (distinct (same_place us) ps) ≡ true
  place_any = distinct_any (same_place us) place_congr place_flip

  -- ---- keys

  abbrev pub same_key : Bor (List ℕ) × ℕ → Bor (List ℕ) × ℕ → Bool
  same_key k j = bytes_eq k.0.now j.0.now && nat_eq k.1 j.1

  key_same : (k j : Bor (List ℕ) × ℕ) (p q : RulePlace) → IsKeyOf us k p → IsKeyOf us j q → same_key k j ≡ same_place us p q
  key_same k j p q kp jq =
      ap (λ (path : List ℕ). bytes_eq path j.0.now && nat_eq k.1 j.1) kp.path
      ∙ ap (λ (path : List ℕ). bytes_eq (path_at us p) path && nat_eq k.1 j.1) jq.path
      ∙ ap (λ (byte : ℕ). bytes_eq (path_at us p) (path_at us q) && nat_eq byte j.1) kp.byte
      ∙ ap (λ (byte : ℕ). bytes_eq (path_at us p) (path_at us q) && nat_eq p.at.byte byte) jq.byte

  pub any_same : (ks : List (Bor (List ℕ) × ℕ)) (ps : List RulePlace) (k : Bor (List ℕ) × ℕ) (p : RulePlace) → AreKeys us ks ps → IsKeyOf us k p → list_any (same_key k) ks ≡ list_any (same_place us p) ps
  any_same [] [] k p are is = refl
  any_same [] (q ∷ ps) k p are is = absurd are
  any_same (j ∷ ks) [] k p are is = absurd are
  any_same (j ∷ ks) (q ∷ ps) k p are is =
      ap (λ (b : Bool). b || list_any (same_key k) ks) (key_same k j p q is are.0) ∙ ap (λ (b : Bool). same_place us p q || b) (any_same ks ps k p are.1 is)

  first_same : (ks : List (Bor (List ℕ) × ℕ)) (ps : List RulePlace) (k : Bor (List ℕ) × ℕ) (p : RulePlace) → AreKeys us ks ps → IsKeyOf us k p → position_or_len (same_key k) ks ≡ position_or_len (same_place us p) ps
  first_same [] [] k p are is = refl
  first_same [] (q ∷ ps) k p are is = absurd are
  first_same (j ∷ ks) [] k p are is = absurd are
  first_same (j ∷ ks) (q ∷ ps) k p are is =
      ap (λ (b : Bool). cond (not b) (1 + position_or_len (same_key k) ks) 0) (key_same k j p q is are.0)
      ∙ ap (λ (n : ℕ). cond (not (same_place us p q)) (1 + n) 0) (first_same ks ps k p are.1 is)

  as_many : (ks : List (Bor (List ℕ) × ℕ)) (ps : List RulePlace) → AreKeys us ks ps → length ks ≡ length ps
  as_many [] [] are = refl
  as_many [] (q ∷ ps) are = absurd are
  as_many (j ∷ ks) [] are = absurd are
  as_many (j ∷ ks) (q ∷ ps) are = ap suc (as_many ks ps are.1)

  pub position_same : (ks : List (Bor (List ℕ) × ℕ)) (ps : List RulePlace) (k : Bor (List ℕ) × ℕ) (p : RulePlace) → AreKeys us ks ps → IsKeyOf us k p → position (same_key k) ks ≡ position (same_place us p) ps
  position_same ks ps k p are is =
      let at : ℕ → ℕ → Option ℕ = λ i n. cond (nat_lt i n) (Some i) None in
      ap (λ (i : ℕ). at i (length ks)) (first_same ks ps k p are is) ∙ ap (at (position_or_len (same_place us p) ps)) (as_many ks ps are)

  pub keys_push : (ks : List (Bor (List ℕ) × ℕ)) (ps : List RulePlace) (k : Bor (List ℕ) × ℕ) (p : RulePlace) → AreKeys us ks ps → IsKeyOf us k p → AreKeys us (ks ++ k ∷ []) (ps ++ p ∷ [])
  keys_push [] [] k p are is = (is, tt)
  keys_push [] (q ∷ ps) k p are is = absurd are
  keys_push (j ∷ ks) [] k p are is = absurd are
  keys_push (j ∷ ks) (q ∷ ps) k p are is = (are.0, keys_push ks ps k p are.1 is)

  -- nothing is added where the key is known, else the place
  pub known_stays : (ks now : List (Bor (List ℕ) × ℕ)) (ps : List RulePlace) (k : Bor (List ℕ) × ℕ) (p : RulePlace) (is_new : Bool) → AreKeys us ks ps → IsKeyOf us k p
      → is_new ≡ not (list_any (same_key k) ks) → is_new ≡ false → now ≡ cond (list_any (same_key k) ks) ks (ks ++ k ∷ []) → AreKeys us now ps × (ps ≡ with_one (same_place us) place_congr p ps)
  known_stays ks now ps k p is_new are is added old e =
      let there : list_any (same_key k) ks ≡ true = not_new (list_any (same_key k) ks) (sym added ∙ old) in
      let among : list_any (same_place us p) ps ≡ true = sym (any_same ks ps k p are is) ∙ there in (
        subst (λ l. AreKeys us l ps) (sym (e ∙ ap (λ (b : Bool). cond b ks (ks ++ k ∷ [])) there)) are,
        sym (ap (λ (b : Bool). cond b ps (ps ++ p ∷ [])) among),
      )

  pub known_goes_on : (ks now : List (Bor (List ℕ) × ℕ)) (ps : List RulePlace) (k : Bor (List ℕ) × ℕ) (p : RulePlace) (is_new : Bool) → AreKeys us ks ps → IsKeyOf us k p
      → is_new ≡ not (list_any (same_key k) ks) → is_new ≡ true → now ≡ cond (list_any (same_key k) ks) ks (ks ++ k ∷ [])
      → AreKeys us now (ps ++ p ∷ []) × (ps ++ p ∷ [] ≡ with_one (same_place us) place_congr p ps)
  known_goes_on ks now ps k p is_new are is added new e =
      let missing : list_any (same_key k) ks ≡ false = is_not (list_any (same_key k) ks) (sym added ∙ new) in
      let apart : list_any (same_place us p) ps ≡ false = sym (any_same ks ps k p are is) ∙ missing in (
        subst (λ l. AreKeys us l (ps ++ p ∷ [])) (sym (e ∙ ap (λ (b : Bool). cond b ks (ks ++ k ∷ [])) missing)) (keys_push ks ps k p are is),
        sym (ap (λ (b : Bool). cond b ps (ps ++ p ∷ [])) apart),
      )
