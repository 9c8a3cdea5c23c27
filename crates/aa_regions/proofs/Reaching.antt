-- Where all steps are followed, each text leads to the row of one.
use Rattle.std.proofs.Common.{◌≡◌, ℕ, zero, suc, ◌+◌, ◌*◌, ◌<◌, ◌≤◌, List, [], ◌∷◌, ◌++◌, Bool, length, All, refl, sym, ap, ◌∙◌, subst, arith, ⊎_elim, append_assoc, append-nil}
use Rattle.std.specs.Prelude.{slice_index}
use Rattle.std.proofs.lemmas.Bool.{cases_lt}
use Rattle.std.proofs.lemmas.List.{length_push, length-append}
use Rattle.std.proofs.lemmas.List.Elements.{All-head, All-tail}
use Rattle.aa_auto.specs.Tables.{Table, place_of, row_after, rows_of}
use Rattle.aa_regions.specs.declared.steps.Step.{Step}
use Rattle.aa_regions.specs.Wanted.{IsFrom}
use Rattle.aa_regions.specs.Automata.{HaveShort}
use Rattle.aa_regions.specs.Steps.{step_at, text_at, IsTrail, IsLevel, IsWithin, IsFollowed, AreFollowed, Extends, ReachAll}
use Rattle.aa_regions.proofs.Stepping.{row_more, step_old, wanted_more}

pub extends_none : (steps : List Step) → Extends steps steps
extends_none steps = record { more = []; are = sym (append-nil steps) }

pub extends_one : (steps : List Step) (s : Step) → Extends steps (steps ++ s ∷ [])
extends_one steps s = record { more = s ∷ []; are = refl }

pub extends_on : (a b c : List Step) → Extends a b → Extends b c → Extends a c
extends_on a b c f g = record { more = f.more ++ g.more; are = g.are ∙ ap (λ l. l ++ g.more) f.are ∙ append_assoc a f.more g.more }

pub extends_length : (a b : List Step) → Extends a b → length a ≤ length b
extends_length a b f = omega (arith, ap length f.are, length-append a f.more)

-- an old step is where it was
pub extends_at : (a b : List Step) → Extends a b → (i : ℕ) → i < length a → step_at b i ≡ step_at a i
extends_at a b f i lt = ap (λ l. step_at l i) f.are ∙ step_old a f.more i lt

pub within_on : (a b : List Step) → Extends a b → (row n : ℕ) → IsWithin a row n → IsWithin b row n
within_on a b f row n w = (
  w.0,
  omega (arith, w.1, extends_length a b f),
  ap (λ (x : Step). x.row) (extends_at a b f w.0 w.1) ∙ w.2,
  subst (λ (x : Step). x.length ≤ n) (sym (extends_at a b f w.0 w.1)) w.3,
)

pub followed_on : (t : Table) (low max : ℕ) (a b : List Step) → Extends a b → (k : ℕ) → k < length a → IsFollowed t low max a k
    → IsFollowed t low max b k
followed_on t low max a b f k lt is short byte from =
    let same = extends_at a b f k lt in
    subst (λ (x : Step). IsWithin b (row_after t x.row (byte ∷ [])) (x.length + 1)) (sym same)
    (within_on a b f (row_after t (step_at a k).row (byte ∷ [])) ((step_at a k).length + 1) (is (subst (λ (x : Step). x.length < max) same short) byte from))

-- one step more is followed
pub followed_more : (t : Table) (low max : ℕ) (a b : List Step) (n : ℕ) → Extends a b → n < length a → AreFollowed t low max a n
    → IsFollowed t low max b n → AreFollowed t low max b (n + 1)
followed_more t low max a b n f lt were here k below inside =
    ⊎_elim
    (λ (l : k < n). followed_on t low max a b f k (omega (arith, l, lt)) (were k l (omega (arith, l, lt))))
    (λ (g : n ≤ k). let e : n ≡ k = omega (arith, below, g) in subst (IsFollowed t low max b) e here)
    (cases_lt k n)

-- the next step is level where one is
pub level_next : (steps : List Step) (n : ℕ) → ((i j : ℕ) → i ≤ j → j < length steps → (step_at steps i).length ≤ (step_at steps j).length)
    → IsLevel steps n → IsLevel steps (n + 1)
level_next steps n rising level lt j lj =
    let a : n < length steps = omega (arith, lt) in
    let b : n ≤ n + 1 = omega arith in
    omega (arith, level a j lj, rising n (n + 1) b lt)

-- bytes of one class lead to one row
pub class_leads : (t : Table) (row a b : ℕ) → slice_index t.classes a ≡ slice_index t.classes b
    → row_after t row (a ∷ []) ≡ row_after t row (b ∷ [])
class_leads t row a b e = ap (λ c. slice_index t.cells (t.width * row + c)) e

module _ (t : Table) (head : List ℕ) (low max : ℕ) (seen : List Bool) (steps : List Step) (trail : IsTrail t head low max seen steps) (n : ℕ)
    (all : length steps ≤ n) (followed : AreFollowed t low max steps n) where
  on : (u s : List ℕ) → All (IsFrom low) u → length (s ++ u) ≤ max → IsWithin steps (place_of t s) (length s)
      → IsWithin steps (place_of t (s ++ u)) (length (s ++ u))
  on [] s bytes short w = subst (λ x. IsWithin steps (place_of t x) (length x)) (sym (append-nil s)) w
  on (b ∷ u) s bytes short w =
      let long : length (s ++ b ∷ u) ≡ length s + suc (length u) = length-append s (b ∷ u) in
      let next = followed w.0 (omega (arith, w.1, all)) w.1 (omega (arith, w.3, long, short)) b (All-head (IsFrom low) b u bytes) in
      let row : (step_at steps next.0).row ≡ place_of t (s ++ b ∷ []) =
      next.2 ∙ ap (λ r. row_after t r (b ∷ [])) w.2 ∙ sym (row_more t s (b ∷ []) 0) in
      let le : (step_at steps next.0).length ≤ length (s ++ b ∷ []) = omega (arith, next.3, w.3, length_push s b) in
      let same : (s ++ b ∷ []) ++ u ≡ s ++ b ∷ u = append_assoc s (b ∷ []) u in
      subst (λ x. IsWithin steps (place_of t x) (length x)) same
      (on u (s ++ b ∷ []) (All-tail (IsFrom low) b u bytes) (subst (λ x. length x ≤ max) (sym same) short) (next.0, next.1, row, le))

  begin : IsWithin steps (place_of t head) (length head)
  begin =
      let at = trail.each 0 trail.some in
      let is : text_at trail.texts 0 ≡ head = ⊎_elim (λ (p : (0 ≡ 0) × (text_at trail.texts 0 ≡ head)). p.1)
      (λ (p : ((step_at steps 0).from < 0) × (text_at trail.texts 0 ≡ text_at trail.texts (step_at steps 0).from ++ (step_at steps 0).byte ∷ [])). absurd (omega (arith, p.0))) at.spelled in
      (0, trail.some, trail.start, omega (arith, at.long, ap length is))

  pub reach_all : ReachAll t head low max steps
  reach_all s w =
      subst (λ x. IsWithin steps (place_of t x) (length x)) (sym w.whole)
      (on w.rest head w.bytes (subst (λ x. length x ≤ max) w.whole w.short) begin)

-- where texts may be as long as there are rows, none needs to be longer
module _ (t : Table) (head : List ℕ) (low max : ℕ) (seen : List Bool) (steps : List Step) (trail : IsTrail t head low max seen steps)
    (reach : ReachAll t head low max steps) (room : length head + rows_of t ≤ max) where
  -- the text of step i has at most i bytes more than the head
  few_bytes : (n i : ℕ) → i ≤ n → i < length steps → (step_at steps i).length ≤ length head + i
  few_bytes zero i le lt =
      let at = trail.each i lt in
      ⊎_elim
      (λ (p : (i ≡ 0) × (text_at trail.texts i ≡ head)). omega (arith, at.long, ap length p.1))
      (λ (p : ((step_at steps i).from < i) × (text_at trail.texts i ≡ text_at trail.texts (step_at steps i).from ++ (step_at steps i).byte ∷ [])). absurd (omega (arith, le, p.0)))
      at.spelled
  few_bytes (suc n) i le lt =
      let at = trail.each i lt in
      let from = (step_at steps i).from in
      let before = text_at trail.texts from in
      ⊎_elim
      (λ (p : (i ≡ 0) × (text_at trail.texts i ≡ head)). omega (arith, at.long, ap length p.1))
      (λ (p : (from < i) × (text_at trail.texts i ≡ before ++ (step_at steps i).byte ∷ [])).
      let there : from < length steps = omega (arith, p.0, lt) in
      omega (
        arith,
        few_bytes n from (omega (arith, le, p.0)) there,
        p.0,
        (trail.each from there).long,
        at.long,
        ap length p.1,
        length_push before (step_at steps i).byte,
      ))
      at.spelled

  -- a step leads to the row of the text
  abbrev IsMet : List ℕ → Type 0
  IsMet s = (j : ℕ) × (j < length steps) × ((step_at steps j).row ≡ place_of t s)

  met_on : (u s : List ℕ) → All (IsFrom low) u → IsMet s → IsMet (s ++ u)
  met_on [] s bytes m = subst IsMet (sym (append-nil s)) m
  met_on (b ∷ u) s bytes m =
      let at = trail.each m.0 m.1 in
      let text = text_at trail.texts m.0 in
      let short : length text < max = omega (arith, at.long, few_bytes m.0 m.0 (omega arith) m.1, m.1, trail.count, room) in
      let longer = wanted_more head low max text b at.wanted short (All-head (IsFrom low) b u bytes) in
      let next = reach (text ++ b ∷ []) longer in
      let row : place_of t (text ++ b ∷ []) ≡ place_of t (s ++ b ∷ []) =
      row_more t text (b ∷ []) 0 ∙ ap (λ r. row_after t r (b ∷ [])) (at.place ∙ m.2) ∙ sym (row_more t s (b ∷ []) 0) in
      subst IsMet (append_assoc s (b ∷ []) u) (met_on u (s ++ b ∷ []) (All-tail (IsFrom low) b u bytes) (next.0, next.1, next.2 ∙ row))

  pub have_short : HaveShort t head low max
  have_short rest bytes =
      let m = met_on rest head bytes (0, trail.some, trail.start) in
      let at = trail.each m.0 m.1 in
      (text_at trail.texts m.0, at.wanted, at.place ∙ m.2)
