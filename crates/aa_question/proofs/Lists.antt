-- What all values of a list stand for, one after the other as a loop does.
use Rattle.std.proofs.Common.{◌≡◌, ℕ, ◌+◌, ◌<◌, List, [], ◌∷◌, ◌++◌, length, map, drop, get_or, Option, Some, None, option_map, refl, sym, ap, ◌∙◌, append_assoc, add-one}
use Rattle.std.proofs.Math.Seq.{drop-cons}
use Rattle.std.proofs.lemmas.List.{append-nil}
use Rattle.serde_json.specs.Data.{Data}
use Rattle.serde_json.specs.View.{items_of}
use Rattle.aa_question.specs.Values.{all_of, data_list}

-- what was made before, and what is still to make
abbrev pub with_front : {A : Type 0} → List A → Option (List A) → Option (List A)
with_front front given = option_map (λ rest. front ++ rest) given

pub nothing_before : {A : Type 0} (given : Option (List A)) → with_front [] given ≡ given
nothing_before None = refl
nothing_before (Some rest) = refl

pub begins : {X A : Type 0} (f : Data → Option A) (v : X → Data) (front : List A) (xs : List X) → front ≡ [] → with_front front (all_of f (map v xs)) ≡ all_of f (map v xs)
begins {A = A} f v front xs empty = ap (λ (ys : List A). with_front ys (all_of f (map v xs))) empty ∙ nothing_before (all_of f (map v xs))

pub next_is : {X : Type 0} (xs : List X) (i : ℕ) (x : X) → i < length xs → x ≡ get_or xs i x → drop i xs ≡ x ∷ drop (i + 1) xs
next_is {X = X} xs i x lt is = rw (add-one i) (drop-cons xs i x lt) ∙ ap (λ (z : X). z ∷ drop (i + 1) xs) (sym is)

regroup : {A : Type 0} (front : List A) (a : A) (given : Option (List A)) → with_front front (option_map (λ bs. a ∷ bs) given) ≡ with_front (front ++ a ∷ []) given
regroup front a None = refl
regroup front a (Some rest) = ap Some (simp append_assoc)

pub step_on : {X A : Type 0} (f : Data → Option A) (v : X → Data) (front : List A) (rest after : List X) (x : X) (a : A) (total : Option (List A)) → rest ≡ x ∷ after → f (v x) ≡ Some a
    → with_front front (all_of f (map v rest)) ≡ total → with_front (front ++ a ∷ []) (all_of f (map v after)) ≡ total
unfolding all_of
step_on f v front rest after x a total is made so_far =
    let one : with_front front (all_of f (map v rest)) ≡ with_front (front ++ a ∷ []) (all_of f (map v after)) = rw (is, made) (regroup front a (all_of f (map v after))) in
    sym one ∙ so_far

pub step_ends : {X A : Type 0} (f : Data → Option A) (v : X → Data) (front : List A) (rest after : List X) (x : X) (total : Option (List A)) → rest ≡ x ∷ after → f (v x) ≡ None
    → with_front front (all_of f (map v rest)) ≡ total → total ≡ None
unfolding all_of
step_ends f v front rest after x total is failed so_far =
    let one : with_front front (all_of f (map v rest)) ≡ None = rw (is, failed) refl in
    sym so_far ∙ one

pub step_done : {X A : Type 0} (f : Data → Option A) (v : X → Data) (front : List A) (rest : List X) (total : Option (List A)) → rest ≡ []
    → with_front front (all_of f (map v rest)) ≡ total → total ≡ Some front
unfolding all_of
step_done f v front rest total is so_far =
    let one : with_front front (all_of f (map v rest)) ≡ Some front = rw is (ap Some (append-nil front)) in
    sym so_far ∙ one

pub items_are : (ds : List Data) → data_list (items_of ds) ≡ ds
items_are [] = refl
items_are (d ∷ ds) = ap (λ (rest : List Data). d ∷ rest) (items_are ds)
