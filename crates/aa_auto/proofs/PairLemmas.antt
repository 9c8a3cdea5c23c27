-- Pairs of rows that texts lead to, one more byte at a time.
use Rattle.std.proofs.Common.{◌≡◌, ◌≢◌, ◌⊎◌, inl, inr, ℕ, ◌+◌, ◌*◌, ◌/◌, ◌%◌, ◌<◌, ◌≤◌, Option, Some, None, Bool, true, false, cond}
use Rattle.std.proofs.Common.{List, [], ◌∷◌, ◌++◌, length, get_or, nat_eq, slice_get, refl, sym, ap, ◌∙◌, subst, ⊎_elim, arith, length-append}
use Rattle.std.proofs.Math.Dec.{eqb}
use Rattle.std.proofs.lemmas.Bool.{cases_lt, eqb-true, eq-eqb}
use Rattle.std.proofs.lemmas.Bool.Decides.{eqb_tells}
use Rattle.std.proofs.lemmas.Nat.{div-mul-add, mod-mul-add}
use Rattle.std.proofs.Math.Nat.{mul_comm}
use Rattle.std.proofs.lemmas.List.{append-nil, get_or_append_left, get_or_push}
use Rattle.std.proofs.lemmas.List.Elements.{All-nil, All-push, All-head, All-tail}
use Rattle.std.proofs.lemmas.Map.Keys.{apart_from_distinct}
use Rattle.std.specs.List.{IsDistinct, list_any}
use Rattle.aa_auto.specs.Tables.{Table, IsTable, IsText, rows_of, row_after, place_of}
use Rattle.aa_auto.specs.Pairs.{pair, first, second, settled, pair_of, pair_after, class_pair, IsPair, IsDead, AreSides, AddsKey, AreMet, GoesTo, ExtendsKeys, HasPairs}
use Rattle.aa_auto.proofs.CellLemmas.{cell_unique}
use Rattle.aa_auto.proofs.AutomatonLemmas.{row_after-append}
use Rattle.aa_auto.proofs.ExploredLemmas.{got}

-- what was inserted stands where it was found
pub added : (old new : List ℕ) (key n : ℕ) → new ≡ cond (list_any (nat_eq key) old) old (old ++ key ∷ []) → n < length new →
    (k : ℕ) × (slice_get new n ≡ Some k) × (nat_eq key k ≡ true) → IsDistinct nat_eq new → AddsKey old new key n
added old new key n is lt stored distinct = record {
  within = lt;
  at = (got new n stored.0 0 stored.1).1 ∙ sym (eqb-true key stored.0 stored.2);
  grows = grows (list_any (nat_eq key) old) is;
  different = λ i j li lj e.
      ⊎_elim
      (λ (l : i < j). absurd (clash i j l lj e))
      (λ (le : j ≤ i). ⊎_elim (λ (l : j < i). absurd (clash j i l li (sym e))) (λ (ge : i ≤ j). omega arith) (cases_lt j i))
      (cases_lt i j);
}
  where
    grows : (b : Bool) → new ≡ cond b old (old ++ key ∷ []) → (new ≡ old) ⊎ (new ≡ old ++ key ∷ [])
    grows true e = inl e
    grows false e = inr e

    clash : (a b : ℕ) → a < b → b < length new → get_or new a 0 ≡ get_or new b 0 → ⊥
    clash a b l lb e = cc (eq-eqb (get_or new a 0) (get_or new b 0) e, apart_from_distinct nat_eq new a b 0 distinct l lb)

pub first_of : (a b : ℕ) → b < 4294967296 → first (pair a b) ≡ a
first_of a b lt = ap (λ z. (z + b) / 4294967296) (mul_comm 4294967296 a) ∙ div-mul-add a 4294967296 b lt

pub second_of : (a b : ℕ) → b < 4294967296 → second (pair a b) ≡ b
second_of a b lt = ap (λ z. (z + b) % 4294967296) (mul_comm 4294967296 a) ∙ mod-mul-add a 4294967296 b lt

pub pairs_same : (k l : ℕ) → first k ≡ first l → second k ≡ second l → k ≡ l
pairs_same k l e f = omega (arith, e, f)

pub classes_same : (one other : Table) (a b : ℕ) → get_or other.classes a 0 < 256 → get_or other.classes b 0 < 256 → class_pair one other a ≡ class_pair one other b →
    (get_or one.classes a 0 ≡ get_or one.classes b 0) × (get_or other.classes a 0 ≡ get_or other.classes b 0)
classes_same one other a b la lb e = cell_unique 256 (get_or one.classes a 0) (get_or one.classes b 0) (get_or other.classes a 0) (get_or other.classes b 0) la lb e

-- rows that are there
pub within_after : (t : Table) → IsTable t → (row b : ℕ) → row < rows_of t → b < 256 → row_after t row (b ∷ []) < rows_of t
within_after t is row b lt few = is.within row (get_or t.classes b 0) lt (is.classed b few)

pub within_from : (t : Table) → IsTable t → (row : ℕ) (s : List ℕ) → row < rows_of t → IsText s → row_after t row s < rows_of t
within_from t is row [] lt text = lt
within_from t is row (b ∷ s) lt text =
    within_from t is (get_or t.cells (t.width * row + get_or t.classes b 0) 0) s (within_after t is row b lt (All-head (λ b. b < 256) b s text)) (All-tail (λ b. b < 256) b s text)

pub within_place : (t : Table) → IsTable t → (s : List ℕ) → IsText s → place_of t s < rows_of t
within_place t is s text = within_from t is 0 s is.some text

-- a row of a table is small enough for a pair
pub small_row : (t : Table) → IsTable t → (row : ℕ) → row < rows_of t → row < 4294967296
small_row t is row lt = omega (arith, lt, is.few_rows)

-- the dead row stands alone, others beside the first one's
dead_settled : (d a b : ℕ) → d ≡ b → settled (Some d) a b ≡ pair 0 b
dead_settled d a b e = ap (λ z. cond z (pair 0 b) (pair a b)) (eq-eqb d b e)

live_settled : (d a b : ℕ) → eqb d b ≡ false → settled (Some d) a b ≡ pair a b
live_settled d a b e = ap (λ z. cond z (pair 0 b) (pair a b)) e

-- where it isn't the dead row's, the pair is that of both rows
pub is_live : (dead : Option ℕ) (one other : Table) (a b : ℕ) → AreSides dead one other → ((row : ℕ) → IsDead other row → row ≡ b → ⊥) → settled dead a b ≡ pair a b
is_live None one other a b sides live = refl
is_live (Some d) one other a b sides live =
    ⊎_elim (λ (p : (eqb d b ≡ true) × (d ≡ b)). absurd (live d sides.dead_is p.1)) (λ (p : (eqb d b ≡ false) × (d ≢ b)). live_settled d a b p.0) (eqb_tells d b)

pair_is : (one other : Table) (a b : ℕ) → IsTable other → a < rows_of one → b < rows_of other → IsPair one other (pair a b)
pair_is one other a b is la lb =
    let lt = small_row other is b lb in
    record { row = subst (λ z. z < rows_of one) (sym (first_of a b lt)) la; beside = subst (λ z. z < rows_of other) (sym (second_of a b lt)) lb }

pub settled_is : (dead : Option ℕ) (one other : Table) (a b : ℕ) → AreSides dead one other → a < rows_of one → b < rows_of other → IsPair one other (settled dead a b)
settled_is None one other a b sides la lb = pair_is one other a b sides.second_is la lb
settled_is (Some d) one other a b sides la lb =
    ⊎_elim
    (λ (p : (eqb d b ≡ true) × (d ≡ b)). subst (IsPair one other) (sym (dead_settled d a b p.1)) (pair_is one other 0 b sides.second_is sides.first_is.some lb))
    (λ (p : (eqb d b ≡ false) × (d ≢ b)). subst (IsPair one other) (sym (live_settled d a b p.0)) (pair_is one other a b sides.second_is la lb))
    (eqb_tells d b)

-- the second row can be told from the pair
pub settled_second : (dead : Option ℕ) (a b : ℕ) → b < 4294967296 → second (settled dead a b) ≡ b
settled_second None a b lt = second_of a b lt
settled_second (Some d) a b lt =
    ⊎_elim
    (λ (p : (eqb d b ≡ true) × (d ≡ b)). ap second (dead_settled d a b p.1) ∙ second_of 0 b lt)
    (λ (p : (eqb d b ≡ false) × (d ≢ b)). ap second (live_settled d a b p.0) ∙ second_of a b lt)
    (eqb_tells d b)

after_pair : (dead : Option ℕ) (one other : Table) (x y b : ℕ) → y < 4294967296 →
    pair_after dead one other (pair x y) b ≡ settled dead (row_after one x (b ∷ [])) (row_after other y (b ∷ []))
after_pair dead one other x y b lt =
    ap (λ z. settled dead (row_after one z (b ∷ [])) (row_after other (second (pair x y)) (b ∷ []))) (first_of x y lt)
    ∙ ap (λ z. settled dead (row_after one x (b ∷ [])) (row_after other z (b ∷ []))) (second_of x y lt)

after_settled : (dead : Option ℕ) (one other : Table) (x y b : ℕ) → AreSides dead one other → y < rows_of other → b < 256 →
    settled dead (row_after one x (b ∷ [])) (row_after other y (b ∷ [])) ≡ pair_after dead one other (settled dead x y) b
after_settled None one other x y b sides lt few = sym (after_pair None one other x y b (small_row other sides.second_is y lt))
after_settled (Some d) one other x y b sides lt few =
    ⊎_elim
    (λ (p : (eqb d y ≡ true) × (d ≡ y)).
    let stays : row_after other y (b ∷ []) ≡ y = subst (λ z. row_after other z (b ∷ []) ≡ z) p.1 (sides.dead_is.stays b few) in
    let left : settled (Some d) (row_after one x (b ∷ [])) (row_after other y (b ∷ [])) ≡ pair 0 y =
    ap (settled (Some d) (row_after one x (b ∷ []))) stays ∙ dead_settled d (row_after one x (b ∷ [])) y p.1 in
    let right : pair_after (Some d) one other (pair 0 y) b ≡ pair 0 y =
    after_pair (Some d) one other 0 y b (small_row other sides.second_is y lt) ∙ ap (settled (Some d) (row_after one 0 (b ∷ []))) stays ∙ dead_settled d (row_after one 0 (b ∷ [])) y p.1 in
    left ∙ sym right ∙ sym (ap (λ z. pair_after (Some d) one other z b) (dead_settled d x y p.1)))
    (λ (p : (eqb d y ≡ false) × (d ≢ y)).
    sym (ap (λ z. pair_after (Some d) one other z b) (live_settled d x y p.0) ∙ after_pair (Some d) one other x y b (small_row other sides.second_is y lt)))
    (eqb_tells d y)

-- bytes of one class in both automata lead to one pair
pub after_alike : (dead : Option ℕ) (one other : Table) (key a b : ℕ) → get_or one.classes a 0 ≡ get_or one.classes b 0 → get_or other.classes a 0 ≡ get_or other.classes b 0 →
    pair_after dead one other key a ≡ pair_after dead one other key b
after_alike dead one other key a b e f =
    ap (λ z. settled dead (get_or one.cells (one.width * first key + z) 0) (row_after other (second key) (a ∷ []))) e
    ∙ ap (λ z. settled dead (row_after one (first key) (b ∷ [])) (get_or other.cells (other.width * second key + z) 0)) f

module _ (dead : Option ℕ) (one other : Table) (sides : AreSides dead one other) where
  -- one byte more
  pub pair_on : (s : List ℕ) (b : ℕ) → IsText s → b < 256 → pair_of dead one other (s ++ b ∷ []) ≡ pair_after dead one other (pair_of dead one other s) b
  pair_on s b text few =
      ap (λ z. settled dead z (place_of other (s ++ b ∷ []))) (row_after-append one 0 s (b ∷ []))
      ∙ ap (λ z. settled dead (row_after one (place_of one s) (b ∷ [])) z) (row_after-append other 0 s (b ∷ []))
      ∙ after_settled dead one other (place_of one s) (place_of other s) b sides (within_place other sides.second_is s text) few

  pub pair_in : (s : List ℕ) → IsText s → IsPair one other (pair_of dead one other s)
  pair_in s text = settled_is dead one other (place_of one s) (place_of other s) sides (within_place one sides.first_is s text) (within_place other sides.second_is s text)

  pub key_in : (keys : List ℕ) → AreMet dead one other keys → (row : ℕ) → row < length keys → IsPair one other (get_or keys row 0)
  key_in keys met row lt = let r = met.reached row lt in subst (IsPair one other) r.2 (pair_in r.0 r.1)

  pub first_met : (keys : List ℕ) (n : ℕ) → AddsKey [] keys (settled dead 0 0) n → AreMet dead one other keys × (length keys ≡ 1)
  first_met keys n adds =
      ⊎_elim
      (λ (e : keys ≡ []). absurd (omega (arith, adds.within, ap length e)))
      (λ (e : keys ≡ settled dead 0 0 ∷ []). (
        record {
          some = omega (arith, ap length e);
          start = ap (λ z. get_or z 0 0) e;
          reached = λ row lt.
              let here : 0 ≡ row = omega (arith, lt, ap length e) in
              ([], All-nil (λ b. b < 256), sym (subst (λ z. get_or keys z 0 ≡ settled dead 0 0) here (ap (λ z. get_or z 0 0) e)));
          different = adds.different;
        },
        ap length e,
      ))
      adds.grows

  module _ (keys new : List ℕ) (row byte next n : ℕ) (few : byte < 256) (met : AreMet dead one other keys) (lt : row < length keys)
      (is : next ≡ pair_after dead one other (get_or keys row 0) byte) (adds : AddsKey keys new next n) where
    key_kept : (r : ℕ) → r < length keys → get_or new r 0 ≡ get_or keys r 0
    key_kept r l = ⊎_elim (λ e. ap (λ z. get_or z r 0) e) (λ e. ap (λ z. get_or z r 0) e ∙ get_or_append_left keys (next ∷ []) 0 r l) adds.grows

    longer : (length keys ≤ length new) × (length new ≤ length keys + 1)
    longer = ⊎_elim
        (λ (e : new ≡ keys). (omega (arith, ap length e), omega (arith, ap length e)))
        (λ (e : new ≡ keys ++ next ∷ []). (omega (arith, ap length e, length-append keys (next ∷ [])), omega (arith, ap length e, length-append keys (next ∷ []))))
        adds.grows

    pub one_longer : length new ≤ length keys + 1
    one_longer = longer.1

    reached : (r : ℕ) → r < length new → (s : List ℕ) × IsText s × (pair_of dead one other s ≡ get_or new r 0)
    reached r l =
        ⊎_elim
        (λ (before : r < length keys). let w = met.reached r before in (w.0, w.1, w.2 ∙ sym (key_kept r before)))
        (λ (g : length keys ≤ r).
        ⊎_elim
        (λ (e : new ≡ keys). absurd (omega (arith, l, ap length e)))
        (λ (e : new ≡ keys ++ next ∷ []).
        let w = met.reached row lt in
        let last : length keys ≡ r = omega (arith, l, ap length e, length-append keys (next ∷ [])) in
        let here : get_or new r 0 ≡ next = ap (λ z. get_or z r 0) e ∙ get_or_push keys next 0 r last in
        (w.0 ++ byte ∷ [], All-push (λ b. b < 256) w.0 byte w.1 few, pair_on w.0 byte w.1 few ∙ ap (λ z. pair_after dead one other z byte) w.2 ∙ sym is ∙ sym here))
        adds.grows)
        (cases_lt r (length keys))

    pub still_met : AreMet dead one other new
    still_met = record {
      some = omega (arith, met.some, longer.0);
      start = key_kept 0 met.some ∙ met.start;
      reached = reached;
      different = adds.different;
    }

    pub goes_next : GoesTo dead one other new row byte n
    goes_next = record {
      within = adds.within;
      step = adds.at ∙ is ∙ ap (λ z. pair_after dead one other z byte) (sym (key_kept row lt));
    }

    pub has_more : (limit : ℕ) → length keys ≤ limit → limit < length new → HasPairs dead one other (limit + 1)
    has_more limit le gt = record { keys = new; many = omega (arith, le, gt, longer.1); met = still_met }

pub extends_key : (old new : List ℕ) (key n : ℕ) → AddsKey old new key n → ExtendsKeys old new
extends_key old new key n adds = ⊎_elim (λ (e : new ≡ old). ([], e ∙ sym (append-nil old))) (λ (e : new ≡ old ++ key ∷ []). (key ∷ [], e)) adds.grows

module _ (old new : List ℕ) (more : ExtendsKeys old new) where
  pub kept : (r : ℕ) → r < length old → get_or new r 0 ≡ get_or old r 0
  kept r lt = ap (λ z. get_or z r 0) more.1 ∙ get_or_append_left old more.0 0 r lt

  pub no_shorter : length old ≤ length new
  no_shorter = omega (arith, ap length more.1, length-append old more.0)

  pub goes_on : (dead : Option ℕ) (one other : Table) (row byte next : ℕ) → row < length old → GoesTo dead one other old row byte next → GoesTo dead one other new row byte next
  goes_on dead one other row byte next lt goes = record {
    within = omega (arith, goes.within, no_shorter);
    step = kept next goes.within ∙ goes.step ∙ ap (λ z. pair_after dead one other z byte) (sym (kept row lt));
  }
