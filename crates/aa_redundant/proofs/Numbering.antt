-- Elements that are marked, one more.
use Rattle.std.proofs.Common.{◌≡◌, ℕ, suc, ◌+◌, ◌<◌, List, [], ◌∷◌, ◌++◌, length, drop, get_or, Bool, true, false, not, cond, refl, sym, ap, ◌∙◌, subst, add-one, append_assoc}
use Rattle.std.proofs.lemmas.List.{at_drop_more}
use Rattle.aa_redundancy.specs.Without.{without_from}

split : {X : Type 0} (b : Bool) (x : X) (rest : List X) → cond (not b) rest (x ∷ rest) ≡ cond b (x ∷ []) [] ++ rest
split true x rest = refl
split false x rest = refl

pub marked_more : {X : Type 0} (test : ℕ → Bool) (xs : List X) (i : ℕ) (x : X) (acc next total : List X) → i < length xs → x ≡ get_or xs i x → next ≡ acc ++ cond (test i) (x ∷ []) []
    → acc ++ without_from (λ n. not (test n)) i (drop i xs) ≡ total → next ++ without_from (λ n. not (test n)) (i + 1) (drop (i + 1) xs) ≡ total
marked_more {X} test xs i x acc next total lt is e so_far =
    let left : ℕ → List X → List X = without_from (λ n. not (test n)) in
    let rest = left (suc i) (drop (i + 1) xs) in
    let P : X → Type 0 = λ y. left i (drop i xs) ≡ cond (not (test i)) rest (y ∷ rest) in
    let here : P x = subst P (sym is) (at_drop_more (left i) xs i x lt) in
    ap (λ (k : ℕ). next ++ left k (drop (i + 1) xs)) (add-one i)
    ∙ ap (λ (l : List X). l ++ rest) e
    ∙ append_assoc acc (cond (test i) (x ∷ []) []) rest
    ∙ ap (λ (l : List X). acc ++ l) (sym (here ∙ split (test i) x rest))
    ∙ so_far
