-- A step at each element, one after the other, as a loop does.
use Rattle.std.proofs.Common.{◌≡◌, ℕ, ◌+◌, ◌<◌, List, [], ◌∷◌, ◌++◌, length, map, drop, get_or, Result, Ok, Err, refl, sym, ap}
use Rattle.std.proofs.Common.{◌∙◌, append_assoc, add-one}
use Rattle.std.proofs.Math.Seq.{drop-cons}
use Rattle.std.proofs.lemmas.List.{append-nil}
use Rattle.aa_merge.specs.declared.fault.PartFault.{PartFault}
use Rattle.aa_merge.specs.declared.fault.PartFault.TheVariants.{NoMemory, NotJson, NotAReport, Answered, Unlike, TooMany}
use Rattle.aa_merge.specs.Steps.{◌>>=◌, each, Refuses}

-- what was made before, and what is still to make
abbrev pub with_front : {B : Type 0} → List B → Result (List B) PartFault → Result (List B) PartFault
with_front front given = given >>= λ ys. Ok (front ++ ys)

pub nothing_before : {B : Type 0} (given : Result (List B) PartFault) → with_front [] given ≡ given
nothing_before (Ok ys) = refl
nothing_before (Err e) = refl

regroup : {B : Type 0} (front : List B) (y : B) (given : Result (List B) PartFault)
    → with_front front (given >>= λ ys. Ok (y ∷ ys)) ≡ with_front (front ++ y ∷ []) given
regroup front y (Ok ys) = ap Ok (simp append_assoc)
regroup front y (Err e) = refl

-- where one definition gives a fault, so does the other
pub passes_on : {X Y : Type 0} (e : PartFault) (one : Result X PartFault) (other : Result Y PartFault)
    → ((d : PartFault) → one ≡ Err d → other ≡ Err d) → Refuses e one → Refuses e other
passes_on NoMemory one other along h = tt
passes_on NotJson one other along h = along NotJson h
passes_on (NotAReport m) one other along h = along (NotAReport m) h
passes_on Answered one other along h = along Answered h
passes_on (Unlike m) one other along h = along (Unlike m) h
passes_on TooMany one other along h = along TooMany h

-- the elements from i on
pub next_at : {X : Type 0} (xs : List X) (i : ℕ) (d : X) → i < length xs → drop i xs ≡ get_or xs i d ∷ drop (i + 1) xs
next_at xs i d lt = rw (add-one i) (drop-cons xs i d lt)

pub next_is : {X : Type 0} (xs : List X) (i : ℕ) (x : X) → i < length xs → x ≡ get_or xs i x → drop i xs ≡ x ∷ drop (i + 1) xs
next_is {X = X} xs i x lt is = next_at xs i x lt ∙ ap (λ (z : X). z ∷ drop (i + 1) xs) (sym is)

pub step_on : {X A B : Type 0} (f : A → Result B PartFault) (v : X → A) (front : List B) (rest after : List X) (x : X) (y : B)
    (total : Result (List B) PartFault) → rest ≡ x ∷ after → f (v x) ≡ Ok y
    → with_front front (each f (map v rest)) ≡ total → with_front (front ++ y ∷ []) (each f (map v after)) ≡ total
unfolding each
step_on f v front rest after x y total is h so_far =
    let one : with_front front (each f (map v rest)) ≡ with_front (front ++ y ∷ []) (each f (map v after)) = rw (is, h)
    (regroup front y (each f (map v after))) in
    sym one ∙ so_far

pub step_ends : {X A B : Type 0} (e : PartFault) (f : A → Result B PartFault) (v : X → A) (front : List B) (rest after : List X) (x : X)
    (total : Result (List B) PartFault) → rest ≡ x ∷ after → Refuses e (f (v x))
    → with_front front (each f (map v rest)) ≡ total → Refuses e total
unfolding each
step_ends e f v front rest after x total is h so_far =
    let along = λ (d : PartFault) (k : f (v x) ≡ Err d). let one : with_front front (each f (map v rest)) ≡ Err d = rw (is, k) refl in sym so_far
    ∙ one in
    passes_on e (f (v x)) total along h

pub step_done : {X A B : Type 0} (f : A → Result B PartFault) (v : X → A) (front : List B) (rest : List X) (total : Result (List B) PartFault)
    → rest ≡ []
    → with_front front (each f (map v rest)) ≡ total → total ≡ Ok front
unfolding each
step_done f v front rest total is so_far =
    let one : with_front front (each f (map v rest)) ≡ Ok front = rw is (ap Ok (append-nil front)) in
    sym so_far ∙ one
