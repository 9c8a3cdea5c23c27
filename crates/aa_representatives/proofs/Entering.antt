-- Each entry of a table of names is found at its number.
use Rattle.std.proofs.Common.{◌≡◌, ℕ, zero, suc, ◌+◌, ◌<◌, ◌≤◌, List, [], ◌∷◌, length, map, take, get_or, Bool, true, false, cond}
use Rattle.std.proofs.Common.{Option, Some, None, Contains, refl, sym, ap, ◌∙◌, subst, arith, ⊎_elim, Result, Ok, Err, OnOk}
use Rattle.std.specs.Prelude.{◌&&◌, ◌==◌, nat_lt}
use Rattle.std.specs.List.{position_or_len}
use Rattle.std.specs.Str.{bytes_eq}
use Rattle.std.proofs.lemmas.Bool.{and_parts, eqb-true}
use Rattle.std.proofs.lemmas.List.{map_more, take_all}
use Rattle.std.proofs.lemmas.List.Elements.{Contains-append_right, Contains-push_cases}
use Rattle.aa_base.specs.Tables.{number_in}

abbrev pub is_at : Option ℕ → ℕ → Bool
is_at (Some n) k = n == k
is_at None k = false

-- the names are found at k and the numbers behind it
unfoldable pub are_found : List (List ℕ) → ℕ → List (List ℕ) → Bool
are_found table k [] = true
are_found table k (x ∷ xs) = is_at (number_in table x) k && are_found table (suc k) xs

at_number : (o : Option ℕ) (k : ℕ) → is_at o k ≡ true → o ≡ Some k
at_number (Some n) k e = ap Some (eqb-true n k e)
at_number None k e = absurd (let h : false ≡ true = e in cc)

found_behind : (table xs : List (List ℕ)) (k : ℕ) → are_found table k xs ≡ true → (i n : ℕ) → i < length xs → n ≡ k + i → (name : List ℕ) × Contains xs name × (number_in table name ≡ Some n)
unfolding are_found
found_behind table [] k e i n lt is = absurd (omega (arith, lt))
found_behind table (x ∷ xs) k e zero n lt is =
    let p = and_parts (is_at (number_in table x) k) (are_found table (suc k) xs) e in
    let same : k ≡ n = omega (arith, is) in
    (x, (0, omega arith, refl), at_number (number_in table x) k p.0 ∙ ap Some same)
found_behind table (x ∷ xs) k e (suc i) n lt is =
    let p = and_parts (is_at (number_in table x) k) (are_found table (suc k) xs) e in
    let r = found_behind table xs (suc k) p.1 i n (omega (arith, lt)) (omega (arith, is)) in
    (r.0, Contains-append_right (x ∷ []) xs r.0 r.1, r.2)

pub entry_found : (table : List (List ℕ)) → are_found table 0 table ≡ true → (n : ℕ) → n < length table → (name : List ℕ) × Contains table name × (number_in table name ≡ Some n)
entry_found table e n lt = found_behind table table 0 e n n lt (omega arith)

within_by : (k l n : ℕ) (b : Bool) → nat_lt k l ≡ b → cond b (Some k) None ≡ Some n → n < l
within_by k l n true lt e = grind arith
within_by k l n false lt e = absurd (let h : None ≡ Some n = e in cc)

pub number_within : (table : List (List ℕ)) (name : List ℕ) (n : ℕ) → number_in table name ≡ Some n → n < length table
number_within table name n e = within_by (position_or_len (λ entry. bytes_eq entry name) table) (length table) n _ refl e

-- what holds of the names of the first things, and of one more
pub names_more : {X : Type 0} (f : X → List ℕ) (xs : List X) (i : ℕ) (d : X) (Q : List ℕ → Type 0) → i < length xs → ((s : List ℕ) → Contains (map f (take i xs)) s → Q s) → Q (f (get_or xs i d))
    → (s : List ℕ) → Contains (map f (take (i + 1) xs)) s → Q s
names_more f xs i d Q lt before here s c =
    ⊎_elim (before s) (λ (e : f (get_or xs i d) ≡ s). subst Q e here) (Contains-push_cases (map f (take i xs)) (f (get_or xs i d)) s (subst (λ (l : List (List ℕ)). Contains l s) (map_more f xs i d lt) c))

pub names_all : {X : Type 0} (f : X → List ℕ) (xs : List X) (i : ℕ) → length xs ≤ i → (s : List ℕ) → Contains (map f xs) s → Contains (map f (take i xs)) s
names_all f xs i le s c = subst (λ (l : List _). Contains (map f l) s) (sym (take_all i xs le)) c

pub ok_on : {X E : Type 0} (r : Result X E) {P Q : Type 0} → OnOk r P → (P → Q) → OnOk r Q
ok_on (Ok x) p f = f p
ok_on (Err e) p f = p
