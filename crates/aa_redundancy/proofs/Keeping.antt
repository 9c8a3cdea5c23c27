-- Places that are kept beside one, one more or one less.
use Rattle.std.proofs.Common.{◌≡◌, ◌≢◌, ℕ, zero, suc, ◌+◌, ◌<◌, List, [], ◌∷◌, ◌++◌, length, take}
use Rattle.std.proofs.Common.{set, get_or, Bool, true, false, true≢false, not, cond, refl, sym, ap, ◌∙◌, subst, arith, ⊎_elim}
use Rattle.std.specs.Prelude.{◌==◌, ◌||◌}
use Rattle.std.proofs.Math.Bool.{or-false}
use Rattle.std.proofs.lemmas.Bool.{cases_Bool}
use Rattle.std.proofs.lemmas.Bool.Decides.{eqb_tells}
use Rattle.std.proofs.lemmas.List.{get_or-set_same, get_or-set_other, take_more}
use Rattle.std.proofs.lemmas.List.Folds.{list_any-append}
use Rattle.aa_redundancy.specs.declared.beside.Beside.{Beside}
use Rattle.aa_redundancy.specs.Without.{marked, gone_by}
use Rattle.aa_redundancy.specs.Reasons.{is_one_of, and_one, others_than}
use Rattle.aa_redundancy.specs.Keeping.{NoneMarkedOf, Keeps}

pub at_set : (flags : List Bool) (i : ℕ) (v : Bool) → i < length flags → (n : ℕ) → marked (set flags i v) n ≡ cond (n == i) v (marked flags n)
at_set flags i v lt n =
    ⊎_elim
    (λ (y : ((n == i) ≡ true) × (n ≡ i)).
    subst (λ (k : ℕ). marked (set flags i v) k ≡ v) (sym y.1) (get_or-set_same flags i v false lt) ∙ sym (ap (λ (b : Bool). cond b v (marked flags n)) y.0))
    (λ (z : ((n == i) ≡ false) × (n ≢ i)). get_or-set_other flags i n v false z.1 ∙ sym (ap (λ (b : Bool). cond b v (marked flags n)) z.0))
    (eqb_tells n i)

pub apart : (a b : ℕ) → a ≢ b → (a == b) ≡ false
apart a b ne = ⊎_elim (λ (y : ((a == b) ≡ true) × (a ≡ b)). absurd (ne y.1)) (λ (z : ((a == b) ≡ false) × (a ≢ b)). z.0) (eqb_tells a b)

pub one_more : (kept : List ℕ) (p n : ℕ) → is_one_of (kept ++ p ∷ []) n ≡ (is_one_of kept n || (n == p))
one_more kept p n = list_any-append (λ (m : ℕ). n == m) kept (p ∷ []) ∙ ap (λ (b : Bool). is_one_of kept n || b) (or-false (n == p))

-- a place more is gone
pub and_one_is : (flags now : List Bool) (place : ℕ) → place < length flags → now ≡ set flags place true → (n : ℕ) → marked now n ≡ and_one place (marked flags) n
and_one_is flags now place lt e n = ap (λ (fs : List Bool). marked fs n) e ∙ at_set flags place true lt n ∙ at (n == place) (marked flags n)
  where
    at : (x g : Bool) → cond x true g ≡ (g || x)
    at true true = refl
    at true false = refl
    at false true = refl
    at false false = refl

-- what is set and set again as it was is as it was
pub again : (xs : List Bool) (p : ℕ) (a b : Bool) → p < length xs → get_or xs p false ≡ b → set (set xs p a) p b ≡ xs
again [] p a b lt e = absurd (omega (arith, lt))
again (x ∷ xs) zero a b lt e = ap (λ (y : Bool). y ∷ xs) (sym e)
again (x ∷ xs) (suc p) a b lt e = ap (λ (l : List Bool). x ∷ l) (again xs p a b (omega (arith, lt)) e)

-- the place of which it is asked is gone
pub asked_gone : (count i : ℕ) (b : Beside) → Keeps count i b → i < count → marked b.gone.items i ≡ true
asked_gone count i b keeps lt =
    ⊎_elim (λ (e : marked b.gone.items i ≡ true). e) (λ (e : marked b.gone.items i ≡ false). absurd (true≢false (sym (keeps.known i lt e) ∙ keeps.others)))
    (cases_Bool (marked b.gone.items i))

-- by the length of the flags
pub at_length : (count i : ℕ) (b : Beside) → Keeps count i b → Keeps (length b.gone.items) i b
at_length count i b keeps = subst (λ (n : ℕ). Keeps n i b) (sym keeps.wide) keeps

pub of_length : (count i : ℕ) (b c : Beside) → Keeps count i b → Keeps (length b.gone.items) i c → Keeps count i c
of_length count i b c keeps more = subst (λ (n : ℕ). Keeps n i c) keeps.wide more

-- one place alone is marked
pub only_is : (count i : ℕ) (flags : List Bool) → NoneMarkedOf count flags → i < count → (n : ℕ) → gone_by false (set flags i true) n ≡ others_than i n
only_is count i flags none lt n =
    ap not (at_set flags i true (omega (arith, lt, none.wide)) n ∙ at (n == i) (marked flags n) (none.each n))
  where
    at : (x g : Bool) → g ≡ false → cond x true g ≡ x
    at true g e = refl
    at false g e = e

-- flags are marked one after another
pub marks_more : (flags was now : List Bool) (places : List ℕ) (k : ℕ) → k < length places → length was ≡ length flags
    → ((n : ℕ) → n < length flags → marked was n ≡ (marked flags n || is_one_of (take k places) n)) → ((n : ℕ) → n < length was → marked now n ≡ (marked was n || n == get_or places k 0))
    → (n : ℕ) → n < length flags → marked now n ≡ (marked flags n || is_one_of (take (k + 1) places) n)
marks_more flags was now places k lt many before here n less =
    let p = get_or places k 0 in
    here n (omega (arith, less, many))
    ∙ ap (λ (b : Bool). b || n == p) (before n less)
    ∙ or_assoc (marked flags n) (is_one_of (take k places) n) (n == p)
    ∙ ap (λ (b : Bool). marked flags n || b) (sym (ap (λ (ns : List ℕ). is_one_of ns n) (take_more places k 0 lt) ∙ one_more (take k places) p n))
  where
    or_assoc : (a b c : Bool) → ((a || b) || c) ≡ (a || (b || c))
    or_assoc true b c = refl
    or_assoc false b c = refl
