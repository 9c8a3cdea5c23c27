-- The first element that passes a test.
use Rattle.std.proofs.Common.{◌≡◌, ℕ, ◌+◌, ◌<◌, ◌≤◌, List, [], ◌∷◌, ◌++◌, length, Bool, true, false, cond, Option, Some, None, refl, sym, ap, ◌∙◌, ⊎_elim, arith, length-append}
use Rattle.std.specs.Prelude.{position, find, nat_lt, slice_get, option_and_then, ◌||◌}
use Rattle.std.specs.List.{position_or_len}
use Rattle.std.specs.Option.{option_or}
use Rattle.std.proofs.lemmas.Bool.{cases_lt, cond-true, cond-false, lt-ltb, le-ltb}
use Rattle.std.proofs.lemmas.List.Folds.{find_at}
use Rattle.std.proofs.lemmas.Option.{slice_get_past}
use Rattle.std.proofs.lemmas.List.{take_all}
use Rattle.std.proofs.lemmas.Grind.{get_or_at_push}
use Rattle.std.proofs.Math.Seq.{take-append_seam}
use Rattle.aa_base.proofs.FirstNumbers.{position_more}

-- the element at the first place that passes is the first that does
pub found_at : {X : Type 0} (p : X → Bool) (xs : List X) → option_and_then (slice_get xs) (position p xs) ≡ find p xs
found_at p xs = ⊎_elim
    (λ (lt : position_or_len p xs < length xs).
    ap (option_and_then (slice_get xs)) (cond-true (nat_lt (position_or_len p xs) (length xs)) (Some (position_or_len p xs)) None (lt-ltb (position_or_len p xs) (length xs) lt)) ∙ sym (find_at p xs))
    (λ (ge : length xs ≤ position_or_len p xs).
    ap (option_and_then (slice_get xs)) (cond-false (nat_lt (position_or_len p xs) (length xs)) (Some (position_or_len p xs)) None (le-ltb (position_or_len p xs) (length xs) ge))
    ∙ sym (find_at p xs ∙ slice_get_past xs (position_or_len p xs) ge))
    (cases_lt (position_or_len p xs) (length xs))

-- one that is added for some, and then for others
pub or_both : (o : Option ℕ) (a b : Bool) (n : ℕ) → option_or (option_or o (cond a (Some n) None)) (cond b (Some n) None) ≡ option_or o (cond (a || b) (Some n) None)
or_both (Some m) a b n = refl
or_both None true b n = refl
or_both None false b n = refl

-- the first place that passes, in a list with one element more
pub position_pushed : {X : Type 0} (p : X → Bool) (xs : List X) (y : X) → position p (xs ++ y ∷ []) ≡ option_or (position p xs) (cond (p y) (Some (length xs)) None)
position_pushed p xs y =
    let zs = xs ++ y ∷ [] in
    let many : length zs ≡ length xs + 1 = length-append xs (y ∷ []) in
    ap (position p) (sym (take_all (length xs + 1) zs (omega arith)))
    ∙ position_more p zs (length xs) y (omega arith) (sym ((get_or_at_push xs y).1))
    ∙ ap (λ l. option_or (position p l) (cond (p y) (Some (length xs)) None)) (take-append_seam xs (y ∷ []))
