-- Marks of rules that go, one after another.
use Rattle.std.proofs.Common.{◌≡◌, ◌≢◌, ℕ, ◌+◌, ◌-◌, ◌<◌, ◌≤◌, List, [], ◌∷◌, ◌++◌, length, replicate}
use Rattle.std.proofs.Common.{set, Bool, true, false, true≢false, refl, sym, ap, ◌∙◌, subst, arith, ⊎_elim, length-append}
use Rattle.std.specs.Prelude.{◌==◌, ◌&&◌, ◌||◌, nat_lt}
use Rattle.std.proofs.lemmas.Bool.{cases_lt, ltb-true, lt-ltb}
use Rattle.std.proofs.lemmas.Bool.Decides.{eqb_tells}
use Rattle.std.proofs.lemmas.List.{length-set, length-replicate, get_or-set_same, get_or-set_other, get_or-replicate, get_or_past, get_or_push}
use Rattle.std.proofs.Math.ListN.{get_or-append}
use Rattle.aa_redundancy.specs.declared.tables.Table.{Table}
use Rattle.aa_redundancy.specs.Tables.{none_gone, SameTables}
use Rattle.aa_redundancy.proofs.Gone.{tables_same}
use Rattle.aa_redundancy.specs.Without.{only, marked, with_later}
use Rattle.aa_redundancy.specs.Going.{MarksThose, NoneMarked, AreLater, GoesWith, Settles}

-- of no list is anything marked
pub none_of : (n : ℕ) → NoneMarked (replicate n false)
none_of n k =
    ⊎_elim (λ (lt : k < n). get_or-replicate n k false false lt)
    (λ (ge : n ≤ k). get_or_past (replicate n false) k false (omega (arith, length-replicate n false, ge)))
    (cases_lt k n)

-- it alone is marked
pub one_marked : (flags : List Bool) (i : ℕ) → NoneMarked flags → i < length flags → (n : ℕ) → marked (set flags i true) n ≡ only i n
one_marked flags i none lt n =
    ⊎_elim
    (λ (y : ((n == i) ≡ true) × (n ≡ i)). subst (λ (k : ℕ). marked (set flags i true) k ≡ true) (sym y.1) (get_or-set_same flags i true false lt) ∙ sym y.0)
    (λ (z : ((n == i) ≡ false) × (n ≢ i)). get_or-set_other flags i n true false z.1 ∙ none n ∙ sym z.0)
    (eqb_tells n i)

-- and then it isn't any more
pub none_again : (flags : List Bool) (i : ℕ) → NoneMarked flags → i < length flags → NoneMarked (set (set flags i true) i false)
none_again flags i none lt n =
    ⊎_elim
    (λ (y : ((n == i) ≡ true) × (n ≡ i)). subst (λ (k : ℕ). marked (set (set flags i true) i false) k ≡ false) (sym y.1) (get_or-set_same (set flags i true) i false false (omega (arith, lt, length-set flags i true))))
    (λ (z : ((n == i) ≡ false) × (n ≢ i)). get_or-set_other (set flags i true) i n false false z.1 ∙ get_or-set_other flags i n true false z.1 ∙ none n)
    (eqb_tells n i)

-- where nothing before it is marked, a marked number with those behind it is all that are marked
by_lt : (b : Bool) (i n : ℕ) (f g : Bool) → nat_lt i n ≡ b → (i < n → f ≡ g) → (b ≡ false → f ≡ false) → f ≡ (b && g)
by_lt true i n f g e more less = more (ltb-true i n e)
by_lt false i n f g e more less = less refl

not_lt : (i n : ℕ) → nat_lt i n ≡ false → n ≤ i
not_lt i n e = ⊎_elim (λ (lt : i < n). absurd (true≢false (sym (lt-ltb i n lt) ∙ e))) (λ (le : n ≤ i). le) (cases_lt i n)

-- flags that have i marked, none before it, and the others as elsewhere
pub later_are : (flags others : List Bool) (i : ℕ) → marked flags i ≡ true → ((n : ℕ) → n < i → marked flags n ≡ false) → ((n : ℕ) → i < n → marked flags n ≡ marked others n)
    → (n : ℕ) → marked flags n ≡ with_later others i n
later_are flags others i here before behind n =
    ⊎_elim
    (λ (y : ((n == i) ≡ true) × (n ≡ i)). subst (λ (k : ℕ). marked flags k ≡ true) (sym y.1) here ∙ sym (ap (λ (b : Bool). b || (nat_lt i n && marked others n)) y.0))
    (λ (z : ((n == i) ≡ false) × (n ≢ i)).
    by_lt (nat_lt i n) i n (marked flags n) (marked others n) refl (behind n)
    (λ e. before n (let le : n ≤ i = not_lt i n e in omega (arith, le, z.1)))
    ∙ sym (ap (λ (b : Bool). b || (nat_lt i n && marked others n)) z.0))
    (eqb_tells n i)

-- what is marked behind a number is the same
pub with_same : (flags others : List Bool) (i : ℕ) → ((n : ℕ) → i < n → marked flags n ≡ marked others n) → (n : ℕ) → with_later flags i n ≡ with_later others i n
with_same flags others i behind n = ap (λ (b : Bool). n == i || b) (at (nat_lt i n) refl)
  where
    at : (b : Bool) → nat_lt i n ≡ b → (nat_lt i n && marked flags n) ≡ (nat_lt i n && marked others n)
    at true e = ap (λ (b : Bool). nat_lt i n && b) (behind n (ltb-true i n e))
    at false e = ap (λ (b : Bool). b && marked flags n) e ∙ sym (ap (λ (b : Bool). b && marked others n) e)

-- from a number on each is marked as it should be, and none before
pub record AreSettled (Same : (ℕ → Bool) → Type 0) (wanted : ℕ → Bool) (count from : ℕ) (flags : List Bool) : Type 0 where
  pub below : (n : ℕ) → n < from → marked flags n ≡ false
  pub each : (i : ℕ) → from ≤ i → i < count → (marked flags i ≡ true → GoesWith Same wanted flags i) × (marked flags i ≡ false → GoesWith Same wanted flags i → ⊥)
  pub all : Same (marked flags)

module _ (Same : (ℕ → Bool) → Type 0) (ext : (g h : ℕ → Bool) → ((n : ℕ) → g n ≡ h n) → Same g → Same h) (wanted : ℕ → Bool) where
  -- a number isn't wanted
  pub left_mark : (was : List Bool) (i : ℕ) → AreLater was i → Same (marked was) → wanted i ≡ false → Settles Same wanted i was was
  left_mark was i later same isnt = record {
    many = refl;
    others = λ n ne. refl;
    goes = λ e. absurd (true≢false (sym e ∙ later i (omega arith)));
    stays = λ e s. true≢false (sym s.0 ∙ isnt);
    all = same;
  }

  -- a number is marked, and nothing changes; or it would, and the mark is taken away
  pub kept_mark : (was : List Bool) (i : ℕ) → i < length was → AreLater was i → wanted i ≡ true → Same (marked (set was i true)) → Settles Same wanted i was (set was i true)
  kept_mark was i lt later is same =
      let here = get_or-set_same was i true false lt in record {
        many = length-set was i true;
        others = λ n ne. get_or-set_other was i n true false ne;
        goes = λ e. (
          is,
          ext (marked (set was i true)) (with_later (set was i true) i)
              (later_are (set was i true) (set was i true) i here (λ n less. get_or-set_other was i n true false (λ e. omega (arith, e, less)) ∙ later n (omega (arith, less))) (λ n more. refl)) same,
        );
        stays = λ e s. true≢false (sym here ∙ e);
        all = same;
      }

  pub taken_mark : (was : List Bool) (i : ℕ) → i < length was → AreLater was i → Same (marked was) → (Same (marked (set was i true)) → ⊥) → Settles Same wanted i was (set (set was i true) i false)
  taken_mark was i lt later same changes =
      let one = set was i true in
      let now = set one i false in
      let wide : i < length one = omega (arith, lt, length-set was i true) in
      let other : (n : ℕ) → n ≢ i → marked now n ≡ marked was n = λ n ne. get_or-set_other one i n false false ne ∙ get_or-set_other was i n true false ne in
      let here : marked now i ≡ false = get_or-set_same one i false false wide in record {
        many = length-set one i false ∙ length-set was i true;
        others = other;
        goes = λ e. absurd (true≢false (sym e ∙ here));
        stays = λ e s. changes (ext (with_later now i) (marked one)
            (λ n. sym (later_are one now i (get_or-set_same was i true false lt)
            (λ n less. get_or-set_other was i n true false (λ e. omega (arith, e, less)) ∙ later n (omega (arith, less)))
            (λ n more. get_or-set_other was i n true false (λ e. omega (arith, e, more)) ∙ sym (other n (λ e. omega (arith, e, more)))) n)) s.1);
        all = ext (marked was) (marked now)
            (λ n. ⊎_elim
            (λ (y : ((n == i) ≡ true) × (n ≡ i)). subst (λ (k : ℕ). marked was k ≡ marked now k) (sym y.1) (later i (omega arith) ∙ sym here))
            (λ (z : ((n == i) ≡ false) × (n ≢ i)). sym (other n z.1)) (eqb_tells n i)) same;
      }

  -- one more is settled
  pub settled_more : (count from i : ℕ) (was now : List Bool) → from ≡ i + 1 → AreSettled Same wanted count from was → Settles Same wanted i was now → AreSettled Same wanted count i now
  settled_more count from i was now e old new = record {
    below = λ n lt. new.others n (λ f. omega (arith, f, lt)) ∙ old.below n (omega (arith, e, lt));
    each = λ j le lt.
        ⊎_elim
        (λ (y : ((j == i) ≡ true) × (j ≡ i)).
        subst (λ (k : ℕ). (marked now k ≡ true → GoesWith Same wanted now k) × (marked now k ≡ false → GoesWith Same wanted now k → ⊥)) (sym y.1) (new.goes, new.stays))
        (λ (z : ((j == i) ≡ false) × (j ≢ i)).
        let h = old.each j (let ne = z.1 in omega (arith, e, le, ne)) lt in
        let there = new.others j z.1 in
        let same : (n : ℕ) → j < n → marked was n ≡ marked now n = λ n more. sym (new.others n (λ f. omega (arith, f, le, more))) in (
          λ t. let g = h.0 (sym there ∙ t) in (g.0, ext (with_later was j) (with_later now j) (with_same was now j same) g.1),
          λ t s. h.1 (sym there ∙ t) (s.0, ext (with_later now j) (with_later was j) (with_same now was j (λ n more. sym (same n more))) s.1),
        ))
        (eqb_tells j i);
    all = new.all;
  }

-- before any is settled
pub none_settled : (ts : List Table) (wanted : ℕ → Bool) (count : ℕ) (flags : List Bool) → flags ≡ replicate count false → AreSettled (SameTables ts) wanted count (count - 0) flags
none_settled ts wanted count flags e =
    let none : NoneMarked flags = λ n. ap (λ (fs : List Bool). marked fs n) e ∙ none_of count n in record {
      below = λ n lt. none n;
      each = λ i le lt. absurd (omega (arith, le, lt));
      all = tables_same ts none_gone (marked flags) (λ n. sym (none n)) (λ t there row c owned. refl);
    }

-- one more is marked alone, or isn't
pub those_more : (P : ℕ → Type 0) (flags now : List Bool) (n : ℕ) (b : Bool) → length flags ≡ n → now ≡ flags ++ b ∷ []
    → (b ≡ true → P n) → (b ≡ false → P n → ⊥) → MarksThose flags n P → MarksThose now (n + 1) P
those_more P flags now n b many e holds fails those i lt =
    ⊎_elim
    (λ (l : i < n).
    let same : marked now i ≡ marked flags i = ap (λ (fs : List Bool). marked fs i) e ∙ get_or-append flags (b ∷ []) false i (omega (arith, l, many)) in
    let h = those i l in (λ t. h.0 (sym same ∙ t), λ t p. h.1 (sym same ∙ t) p))
    (λ (g : n ≤ i).
    let is : i ≡ n = omega (arith, lt, g) in
    let at : i ≡ length flags = omega (arith, is, many) in
    let here : marked now i ≡ b = ap (λ (fs : List Bool). marked fs i) e ∙ get_or_push flags b false i (sym at) in (
      λ t. subst P (sym is) (holds (sym here ∙ t)),
      λ t p. fails (sym here ∙ t) (subst P is p),
    ))
    (cases_lt i n)

pub many_more : (flags now : List Bool) (n : ℕ) (b : Bool) → length flags ≡ n → now ≡ flags ++ b ∷ [] → length now ≡ n + 1
many_more flags now n b many e = ap length e ∙ length-append flags (b ∷ []) ∙ ap (λ (k : ℕ). k + 1) many
