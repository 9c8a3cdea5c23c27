-- Two lists that are gone over together.
use Rattle.std.proofs.Common.{◌≡◌, ◌↔◌, ℕ, zero, suc, ◌+◌, ◌<◌, ◌≤◌, List, [], ◌∷◌, length, take, get_or, Bool, Vec, refl, sym, ap, subst, ◌∙◌, arith, inl, inr, ⊎_elim}
use Rattle.std.specs.declared.alloc.Global.{Global}
use Rattle.std.specs.List.{AllZip}
use Rattle.std.proofs.lemmas.List.{take_more, take_all}
use Rattle.std.proofs.lemmas.Slice.Zip.{all_zipped_more}
use Rattle.aa_pattern.specs.declared.item.Item.{Item, Choice, Class}
use Rattle.aa_pattern.specs.Globs.{Matches, SomeMatches, IsListed}
use Rattle.aa_pattern.specs.Weights.{weight, weight_of_items}
use Rattle.aa_pattern.proofs.Rows.{Allows-Choice}
use Rattle.aa_differences.specs.Sameness.{SameItem, SameSet, SameList, SameValue}

-- the elements of one place stand behind those before
pub zipped_next : {X : Type 0} (R : X → X → Type 0) (xs ys : List X) (i : ℕ) (x y : X) → i < length xs → length xs ≡ length ys → x ≡ get_or xs i x → y ≡ get_or ys i y → R x y
    → AllZip R (take i xs) (take i ys) → AllZip R (take (i + 1) xs) (take (i + 1) ys)
zipped_next R xs ys i x y lt long e f r are =
    let within : i < length ys = omega (arith, lt, long) in
    rw (take_more xs i x lt, take_more ys i y within, ← e, ← f) (all_zipped_more R (take i xs) (take i ys) x y are r)

pub zipped_all : {X : Type 0} (R : X → X → Type 0) (xs ys : List X) (i : ℕ) → length xs ≤ i → length xs ≡ length ys → AllZip R (take i xs) (take i ys) → AllZip R xs ys
zipped_all R xs ys i le long are =
    let other : length ys ≤ i = omega (arith, le, long) in
    subst (λ (zs : _). AllZip R xs zs) (take_all i ys other) (subst (λ (zs : _). AllZip R zs (take i ys)) (take_all i xs le) are)

same_refl : (a b : Item) → a ≡ b → SameItem a b
same_refl a b e = subst (λ (x : Item). SameItem a x) e (record { allow = λ s. (λ h. h, λ h. h); byte = refl })

pub equal_same : (a b : Item) → a ≡ b → SameItem a b
equal_same a b e = same_refl a b e

listed_same : (v w : List Bool) → SameSet v w → (n : ℕ) → IsListed v n → IsListed w n
listed_same v w h n l = (l.0, sym (h n l.0.1) ∙ l.1)

set_sym : (v w : List Bool) → SameSet v w → SameSet w v
set_sym v w h n lt = sym (h n lt)

pub class_same : (v w : List Bool) → SameSet v w → SameItem (Class v) (Class w)
class_same v w h = record {
  allow = λ s. (λ m. (m.0, m.1, listed_same v w h m.0 m.2), λ m. (m.0, m.1, listed_same w v (set_sym v w h) m.0 m.2));
  byte = refl;
}

pub items_match : (as' bs : List Item) → AllZip SameItem as' bs → (s : List ℕ) → Matches as' s ↔ Matches bs s
items_match [] [] h s = (λ x. x, λ x. x)
items_match (a ∷ as') (b ∷ bs) h s = (
  λ m. (m.0, m.1, m.2, (h.0.allow m.0).0 m.3, (items_match as' bs h.1 m.1).0 m.4),
  λ m. (m.0, m.1, m.2, (h.0.allow m.0).1 m.3, (items_match as' bs h.1 m.1).1 m.4),
)
items_match [] (b ∷ bs) h s = absurd h
items_match (a ∷ as') [] h s = absurd h

some_match : (vs ws : List (Vec Item Global)) → AllZip SameList vs ws → (s : List ℕ) → SomeMatches vs s ↔ SomeMatches ws s
some_match [] [] h s = (λ x. x, λ x. x)
some_match (v ∷ vs) (w ∷ ws) h s =
    let here = items_match v.items w.items h.0 s in let later = some_match vs ws h.1 s in
    (λ m. ⊎_elim (λ x. inl (here.0 x)) (λ x. inr (later.0 x)) m, λ m. ⊎_elim (λ x. inl (here.1 x)) (λ x. inr (later.1 x)) m)
some_match [] (w ∷ ws) h s = absurd h
some_match (v ∷ vs) [] h s = absurd h

-- choices of the same sequences are the same
pub same_choice : (v w : Vec (Vec Item Global) Global) → AllZip SameList v.items w.items → SameItem (Choice v) (Choice w)
same_choice v w h = record {
  allow = λ s.
      let one = Allows-Choice v s in let other = Allows-Choice w s in let same = some_match v.items w.items h s in
      (λ m. other.1 (same.0 (one.0 m)), λ m. one.1 (same.1 (other.0 m)));
  byte = refl;
}

pub weight_at : (items : List Item) (k : ℕ) (d : Item) → k < length items → weight (get_or items k d) ≤ weight_of_items items
weight_at [] k d h = absurd (omega arith)
weight_at (a ∷ items) zero d h = omega arith
weight_at (a ∷ items) (suc k) d h = omega (arith, weight_at items k d (omega arith))

-- lists of the same values are one
pub zipped_equal : {X : Type 0} (xs ys : List X) → AllZip SameValue xs ys → xs ≡ ys
zipped_equal [] [] h = refl
zipped_equal (x ∷ xs) (y ∷ ys) h = ap (λ (z : _). z ∷ xs) h.0 ∙ ap (λ (zs : List _). y ∷ zs) (zipped_equal xs ys h.1)
zipped_equal [] (y ∷ ys) h = absurd h
zipped_equal (x ∷ xs) [] h = absurd h

-- `zipped_next`, of elements with what stands for one that isn't there
pub zipped_or : {X : Type 0} (R : X → X → Type 0) (xs ys : List X) (i : ℕ) (d : X) → i < length xs → length xs ≡ length ys → R (get_or xs i d) (get_or ys i d)
    → AllZip R (take i xs) (take i ys) → AllZip R (take (i + 1) xs) (take (i + 1) ys)
zipped_or R xs ys i d lt long r are =
    let within : i < length ys = omega (arith, lt, long) in
    rw (take_more xs i d lt, take_more ys i d within) (all_zipped_more R (take i xs) (take i ys) (get_or xs i d) (get_or ys i d) are r)
