-- One step more.
use Rattle.std.proofs.Common.{◌≡◌, ℕ, zero, suc, ◌+◌, ◌*◌, ◌<◌, ◌≤◌, List, [], ◌∷◌, ◌++◌, Bool, true, false, not, cond}
use Rattle.std.proofs.Common.{length, get_or, set, replicate, inl, inr, refl, sym, ap, ◌∙◌, subst, arith, ⊎_elim, append_assoc, append-nil}
use Rattle.std.specs.Prelude.{slice_index, count_by}
use Rattle.std.proofs.lemmas.Bool.{cases_eq, cases_lt}
use Rattle.std.proofs.lemmas.List.{length-set, length_push, get_or-set_other, get_or_append_left, get_or_push}
use Rattle.std.proofs.lemmas.List.Elements.{All-push, All-nil}
use Rattle.std.proofs.lemmas.List.Sums.{sum_by-cons, sum_by-set}
use Rattle.aa_auto.specs.Tables.{Table, place_of, row_after, rows_of}
use Rattle.aa_regions.specs.declared.steps.Step.{Step}
use Rattle.aa_regions.specs.Wanted.{IsWanted, IsFrom}
use Rattle.aa_regions.specs.Steps.{no_step, step_at, text_at, IsSeen, IsStep, IsRising, IsTrail, IsLevel, IsWithin}

-- the row of a longer text is found from the row before
pub row_more : (t : Table) (s u : List ℕ) (row : ℕ) → row_after t row (s ++ u) ≡ row_after t (row_after t row s) u
row_more t [] u row = refl
row_more t (b ∷ s) u row = row_more t s u (slice_index t.cells (t.width * row + slice_index t.classes b))

pub wanted_more : (head : List ℕ) (low max : ℕ) (s : List ℕ) (b : ℕ) → IsWanted head low max s → length s < max → IsFrom low b
    → IsWanted head low max (s ++ b ∷ [])
wanted_more head low max s b w short from = record {
  rest = w.rest ++ b ∷ [];
  whole = ap (λ x. x ++ b ∷ []) w.whole ∙ append_assoc head w.rest (b ∷ []);
  bytes = All-push (IsFrom low) w.rest b w.bytes from;
  short = omega (arith, length_push s b, short);
}

pub wanted_head : (head : List ℕ) (low max : ℕ) → length head ≤ max → IsWanted head low max head
wanted_head head low max short = record { rest = []; whole = sym (append-nil head); bytes = All-nil (IsFrom low); short = short }

abbrev unseen : Bool → ℕ
unseen x = cond (not x) 1 0

-- the same step with the same texts
step_same : (t : Table) (head : List ℕ) (low max i : ℕ) (p q : Step) (a b s u : List ℕ) → p ≡ q → a ≡ b → s ≡ u
    → IsStep t head low max i p a s → IsStep t head low max i q b u
step_same t head low max i p q a b s u e f g is =
    subst (λ x. IsStep t head low max i q b x) g (subst (λ x. IsStep t head low max i q x s) f (subst (λ x. IsStep t head low max i x a s) e is))

pub step_old : (steps more : List Step) (i : ℕ) → i < length steps → step_at (steps ++ more) i ≡ step_at steps i
step_old steps more i lt = get_or_append_left steps more no_step i lt

-- from step k by one byte
module _ (t : Table) (head : List ℕ) (low max : ℕ) (seen : List Bool) (steps : List Step) (trail : IsTrail t head low max seen steps) (k b row : ℕ)
    (lt : k < length steps)
    (level : IsLevel steps k) (short : (step_at steps k).length < max) (from : IsFrom low b) (is : row ≡ row_after t (step_at steps k).row (b ∷ []))
    (within : row < rows_of t) (long : ℕ) (long_is : long ≡ (step_at steps k).length + 1) where
  abbrev new : Step
  new = record { row = row; from = k; byte = b; length = long }

  abbrev more : List Step
  more = steps ++ new ∷ []

  abbrev text : List ℕ
  text = text_at trail.texts k ++ b ∷ []

  abbrev texts : List (List ℕ)
  texts = trail.texts ++ text ∷ []

  step_new : step_at more (length steps) ≡ new
  step_new = get_or_push steps new no_step (length steps) refl

  text_old : (i : ℕ) → i < length steps → text_at texts i ≡ text_at trail.texts i
  text_old i l = get_or_append_left trail.texts (text ∷ []) [] i (omega (arith, l, trail.many))

  text_new : text_at texts (length steps) ≡ text
  text_new = get_or_push trail.texts text [] (length steps) trail.many

  fresh : IsStep t head low max (length steps) new (text_at trail.texts k) text
  fresh =
      let at = trail.each k lt in
      record {
        earlier = omega (arith, lt);
        spelled = inr (lt, refl);
        wanted = wanted_more head low max (text_at trail.texts k) b at.wanted (omega (arith, at.long, short)) from;
        place = row_more t (text_at trail.texts k) (b ∷ []) 0 ∙ ap (λ r. row_after t r (b ∷ [])) at.place ∙ sym is;
        long = length_push (text_at trail.texts k) b ∙ ap (λ n. n + 1) at.long ∙ sym long_is;
      }

  each : (i : ℕ) → i < length more → IsStep t head low max i (step_at more i) (text_at texts (step_at more i).from) (text_at texts i)
  each i l =
      ⊎_elim
      (λ (old : i < length steps).
      let at = trail.each i old in
      let same = step_old steps (new ∷ []) i old in
      step_same t head low max i (step_at steps i) (step_at more i) (text_at trail.texts (step_at steps i).from) (text_at texts (step_at more i).from)
      (text_at trail.texts i) (text_at texts i)
      (sym same)
      (sym (ap (λ (x : Step). text_at texts x.from) same ∙ text_old (step_at steps i).from (omega (arith, at.earlier, old))))
      (sym (text_old i old)) at)
      (λ (late : length steps ≤ i).
      let e : length steps ≡ i = omega (arith, late, l, length_push steps new) in
      subst (λ n. IsStep t head low max n (step_at more n) (text_at texts (step_at more n).from) (text_at texts n)) e
      (step_same t head low max (length steps) new (step_at more (length steps)) (text_at trail.texts k)
      (text_at texts (step_at more (length steps)).from) text (text_at texts (length steps))
      (sym step_new)
      (sym (ap (λ (x : Step). text_at texts x.from) step_new ∙ text_old k lt))
      (sym text_new) fresh))
      (cases_lt i (length steps))

  length_old : (i : ℕ) → i < length steps → (step_at more i).length ≡ (step_at steps i).length
  length_old i l = ap (λ (x : Step). x.length) (step_old steps (new ∷ []) i l)

  length_new : (step_at more (length steps)).length ≡ long
  length_new = ap (λ (x : Step). x.length) step_new

  length_at : (i : ℕ) → length steps ≤ i → i < length more → (step_at more i).length ≡ long
  length_at i late l =
      let e : length steps ≡ i = omega (arith, late, l, length_push steps new) in
      subst (λ n. (step_at more n).length ≡ long) e length_new

  rising : IsRising more
  rising i j le l =
      ⊎_elim
      (λ (a : j < length steps). omega (arith, length_old i (omega (arith, le, a)), length_old j a, trail.rising i j le a))
      (λ (a : length steps ≤ j).
      ⊎_elim
      (λ (c : i < length steps). omega (arith, length_old i c, length_at j a l, level lt i c, long_is))
      (λ (c : length steps ≤ i). omega (arith, length_at i c (omega (arith, le, l)), length_at j a l))
      (cases_lt i (length steps)))
      (cases_lt j (length steps))

  row_new : (step_at more (length steps)).row ≡ row
  row_new = ap (λ (x : Step). x.row) step_new

  pub trail_more : get_or seen row false ≡ false → IsTrail t head low max (set seen row true) more
  trail_more unmet = record {
    texts = texts;
    many = length_push trail.texts text ∙ ap (λ n. n + 1) trail.many ∙ sym (length_push steps new);
    some = omega (arith, length_push steps new);
    start = ap (λ (x : Step). x.row) (step_old steps (new ∷ []) 0 trail.some) ∙ trail.start;
    each = each;
    rows = length-set seen row true ∙ trail.rows;
    within = λ i l.
        ⊎_elim
        (λ (a : i < length steps). subst (λ (x : Step). x.row < rows_of t) (sym (step_old steps (new ∷ []) i a)) (trail.within i a))
        (λ (a : length steps ≤ i).
        let e : length steps ≡ i = omega (arith, a, l, length_push steps new) in
        subst (λ n. (step_at more n).row < rows_of t) e (subst (λ r. r < rows_of t) (sym row_new) within))
        (cases_lt i (length steps));
    seen_by = λ r e.
        ⊎_elim
        (λ (q : r ≡ row). (length steps, omega (arith, length_push steps new), row_new ∙ sym q))
        (λ (ne : r ≡ row → ⊥).
        let f = trail.seen_by r (sym (get_or-set_other seen row r true false ne) ∙ e) in
        (f.0, omega (arith, f.1, length_push steps new), ap (λ (x : Step). x.row) (step_old steps (new ∷ []) f.0 f.1) ∙ f.2))
        (cases_eq r row);
    count = omega (arith, trail.count, length_push steps new, sum_by-set unseen seen row true false (omega (arith, trail.rows, within)), ap unseen unmet);
    rising = rising;
  }

  pub level_more : IsLevel more k
  level_more l j lj =
      ⊎_elim
      (λ (a : j < length steps). omega (arith, length_old j a, length_old k lt, level lt j a))
      (λ (a : length steps ≤ j). omega (arith, length_at j a lj, length_old k lt, long_is))
      (cases_lt j (length steps))

  pub reached_more : IsWithin more (row_after t (step_at steps k).row (b ∷ [])) ((step_at steps k).length + 1)
  reached_more = (length steps, omega (arith, length_push steps new), row_new ∙ is, omega (arith, length_new, long_is))

-- a row that is seen is a step's
pub reached_seen : (t : Table) (head : List ℕ) (low max : ℕ) (seen : List Bool) (steps : List Step) → IsTrail t head low max seen steps → (k row : ℕ)
    → k < length steps → IsLevel steps k → IsSeen seen row
    → IsWithin steps row ((step_at steps k).length + 1)
reached_seen t head low max seen steps trail k row lt level e = let f = trail.seen_by row e in (f.0, f.1, f.2, level lt f.0 f.1)

-- where nothing is seen, all rows are counted
count_all : (seen : List Bool) → ((n : ℕ) → get_or seen n false ≡ false) → count_by not seen ≡ length seen
count_all [] none = refl
count_all (x ∷ seen) none = omega (arith, sum_by-cons unseen x seen, ap unseen (none 0), count_all seen (λ n. none (suc n)))

pub none_seen : (n k : ℕ) → get_or (replicate n false) k false ≡ false
none_seen zero k = refl
none_seen (suc n) zero = refl
none_seen (suc n) (suc k) = none_seen n k

-- the first step
pub first_trail : (t : Table) (head : List ℕ) (low max : ℕ) (seen : List Bool) (row long : ℕ) → length head ≤ max → row ≡ place_of t head
    → row < rows_of t → long ≡ length head
    → length seen ≡ rows_of t → ((n : ℕ) → get_or seen n false ≡ false) → (step : Step)
    → step ≡ record { row = row; from = 0; byte = 0; length = long }
    → IsTrail t head low max (set seen row true) (step ∷ [])
first_trail t head low max seen row long short is within long_is rows none step step_is = record {
  texts = head ∷ [];
  many = refl;
  some = omega arith;
  start = ap (λ (x : Step). x.row) step_is ∙ is;
  each = λ i l.
      let e : 0 ≡ i = omega arith in
      subst (λ n. IsStep t head low max n (step_at (step ∷ []) n) (text_at (head ∷ []) (step_at (step ∷ []) n).from) (text_at (head ∷ []) n)) e
      (subst (λ (x : Step). IsStep t head low max 0 x (text_at (head ∷ []) x.from) head) (sym step_is)
      (record {
        earlier = omega arith;
        spelled = inl (refl, refl);
        wanted = wanted_head head low max short;
        place = sym is;
        long = sym long_is;
      }));
  rows = length-set seen row true ∙ rows;
  within = λ i l.
      let e : 0 ≡ i = omega arith in
      subst (λ n. (step_at (step ∷ []) n).row < rows_of t) e (subst (λ (x : Step). x.row < rows_of t) (sym step_is) within);
  seen_by = λ r e.
      ⊎_elim
      (λ (q : r ≡ row). (0, omega arith, ap (λ (x : Step). x.row) step_is ∙ sym q))
      (λ (ne : r ≡ row → ⊥). absurd (cc (get_or-set_other seen row r true false ne, e, none r)))
      (cases_eq r row);
  count = omega (arith, count_all seen none, rows, sum_by-set unseen seen row true false (omega (arith, rows, within)), ap unseen (none row));
  rising = λ i j le l.
      let e : i ≡ j = omega arith in
      subst (λ n. (step_at (step ∷ []) i).length ≤ (step_at (step ∷ []) n).length) e (omega arith);
}
