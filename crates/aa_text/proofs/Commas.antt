-- Lists whose values are written one after another.
use Rattle.std.proofs.Common.{◌≡◌, ℕ, List, [], ◌∷◌, ◌++◌, map, ◌||◌, Bool, true, false, refl, sym, ap, ◌∙◌, append-nil, length, ◌<◌, arith, if◌then◌else◌}
use Rattle.std.specs.List.{filter}
use Rattle.aa_text.specs.Jsons.{comma_if, more_of, with_commas}

-- what of a list's values is still to be written: of those that stand in it, each behind a comma where one stands before
unfoldable pub left_in : {X : Type 0} → (X → Bool) → (X → List ℕ) → Bool → List X → List ℕ
left_in is text later [] = []
left_in is text later (x ∷ xs) = (if is x then comma_if later ++ text x else []) ++ left_in is text (later || is x) xs

none_of : (later : Bool) → [] ≡ more_of later []
none_of true = refl
none_of false = refl

step : {X : Type 0} (is : X → Bool) (text : X → List ℕ) (b later : Bool) (x : X) (xs : List X) → ((k : Bool) → left_in is text k xs ≡ more_of k (map text (filter is xs)))
    → (if b then comma_if later ++ text x else []) ++ left_in is text (later || b) xs ≡ more_of later (map text (if b then x ∷ filter is xs else filter is xs))
step is text true true x xs e = rw (e true) refl
step is text true false x xs e = rw (e true) refl
step is text false true x xs e = e true
step is text false false x xs e = e false

left_is : {X : Type 0} (is : X → Bool) (text : X → List ℕ) (xs : List X) (k : Bool) → left_in is text k xs ≡ more_of k (map text (filter is xs))
unfolding left_in
left_is is text [] k = none_of k
left_is is text (x ∷ xs) k = step is text (is x) k x xs (left_is is text xs)

none_left : {X : Type 0} (is : X → Bool) (text : X → List ℕ) (later : Bool) (xs : List X) → length xs < 1 → left_in is text later xs ≡ []
unfolding left_in
none_left is text later [] short = refl
none_left is text later (x ∷ xs) short = absurd (omega arith)

-- where none is left, what was appended is all
pub all_appended : {X : Type 0} (is : X → Bool) (text : X → List ℕ) (later : Bool) (before now : List ℕ) (rest xs : List X) → length rest < 1
    → now ++ left_in is text later rest ≡ before ++ left_in is text false xs → now ≡ before ++ with_commas (map text (filter is xs))
all_appended is text later before now rest xs short e =
    sym (append-nil now) ∙ (ap (λ (t : List ℕ). now ++ t) (sym (none_left is text later rest short)) ∙ (e ∙ ap (λ (t : List ℕ). before ++ t) (left_is is text xs false)))

-- values that are read first, and then written
pub map_map : {X Y Z : Type 0} (g : Y → Z) (f : X → Y) (xs : List X) → map g (map f xs) ≡ map (λ x. g (f x)) xs
map_map g f [] = refl
map_map g f (x ∷ xs) = ap (λ l. g (f x) ∷ l) (map_map g f xs)

filter_step : {X Y : Type 0} (is : Y → Bool) (f : X → Y) (b : Bool) (x : X) (xs : List X) → filter is (map f xs) ≡ map f (filter (λ x. is (f x)) xs)
    → (if b then f x ∷ filter is (map f xs) else filter is (map f xs)) ≡ map f (if b then x ∷ filter (λ x. is (f x)) xs else filter (λ x. is (f x)) xs)
filter_step is f true x xs e = ap (λ l. f x ∷ l) e
filter_step is f false x xs e = e

pub filter_map : {X Y : Type 0} (is : Y → Bool) (f : X → Y) (xs : List X) → filter is (map f xs) ≡ map f (filter (λ x. is (f x)) xs)
filter_map is f [] = refl
filter_map is f (x ∷ xs) = filter_step is f (is (f x)) x xs (filter_map is f xs)

filter_all : {X : Type 0} (xs : List X) → filter (λ x. true) xs ≡ xs
filter_all [] = refl
filter_all (x ∷ xs) = ap (λ l. x ∷ l) (filter_all xs)

-- a list in which each value stands
pub all_stand : {X Y : Type 0} (text : Y → List ℕ) (f : X → Y) (xs : List X) → map (λ x. text (f x)) (filter (λ x. true) xs) ≡ map text (map f xs)
all_stand text f xs = ap (map (λ x. text (f x))) (filter_all xs) ∙ sym (map_map text f xs)

pub each_stands : {X : Type 0} (text : X → List ℕ) (xs : List X) → map text (filter (λ x. true) xs) ≡ map text xs
each_stands text xs = ap (map text) (filter_all xs)
