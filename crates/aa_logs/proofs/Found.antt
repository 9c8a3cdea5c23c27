-- Parts of texts, and numbers digit by digit.
use Rattle.std.proofs.Common.{◌≡◌, ℕ, ◌+◌, ◌-◌, ◌*◌, ◌^◌, ◌<◌, ◌≤◌, Bool, true, false, ◌&&◌, List, [], ◌∷◌}
use Rattle.std.proofs.Common.{length, drop, get_or, map, cond, refl, sym, ◌∙◌, ap, arith, Option, Some, None}
use Rattle.std.specs.Prelude.{count_by, option_map, nat_eq, nat_lt}
use Rattle.std.specs.List.{starts_with, list_any, fold}
use Rattle.std.proofs.lemmas.List.{length-drop, at_drop_more, at_drop_all}
use Rattle.aa_logs.specs.Fields.{place_of, is_digit, number_from, number_in}

module _ {X Y : Type 0} (f : X → Y) where
  pub any-map : (p : Y → Bool) (xs : List X) → list_any p (map f xs) ≡ list_any (λ x. p (f x)) xs
  any-map p [] = refl
  any-map p (x ∷ xs) = cc (any-map p xs)

  sum-map : (p : Y → Bool) (n : ℕ) (xs : List X) → fold (λ a y. a + cond (p y) 1 0) n (map f xs) ≡ fold (λ a x. a + cond (p (f x)) 1 0) n xs
  sum-map p n [] = refl
  sum-map p n (x ∷ xs) = sum-map p (n + cond (p (f x)) 1 0) xs

  pub count-map : (p : Y → Bool) (xs : List X) → count_by p (map f xs) ≡ count_by (λ x. p (f x)) xs
  count-map p xs = sum-map p 0 xs

-- a part stands first, or behind the first byte
place_case : (part t : List ℕ) → 0 < length t → place_of part t ≡ cond (starts_with nat_eq t part) (Some 0) (option_map (λ n. n + 1) (place_of part (drop 1 t)))
unfolding place_of
place_case part [] h = absurd (omega arith)
place_case part (b ∷ bs) h = refl

pub drop_one : (i : ℕ) (t : List ℕ) → i < length t → drop 1 (drop i t) ≡ drop (i + 1) t
drop_one i t h = at_drop_more (drop 1) t i 0 h

pub drop_some : (i : ℕ) (t : List ℕ) → i < length t → 0 < length (drop i t)
drop_some i t h = omega (arith, length-drop {A = ℕ})

place_step : (part t : List ℕ) (i : ℕ) → i < length t → place_of part (drop i t) ≡ cond (starts_with nat_eq (drop i t) part) (Some 0) (option_map (λ n. n + 1) (place_of part (drop (i + 1) t)))
place_step part t i h =
    place_case part (drop i t) (drop_some i t h)
    ∙ ap (λ (u : List ℕ). cond (starts_with nat_eq (drop i t) part) (Some 0) (option_map (λ n. n + 1) (place_of part u))) (drop_one i t h)

abbrev pub moved : ℕ → Option ℕ → Option ℕ
moved i o = option_map (λ n. n + i) o

pub moved_on : (i : ℕ) (o : Option ℕ) → moved i (option_map (λ n. n + 1) o) ≡ moved (i + 1) o
moved_on i None = refl
moved_on i (Some n) = let e : n + 1 + i ≡ n + (i + 1) = omega arith in ap Some e

pub place_found : (part t : List ℕ) (i : ℕ) (total : Option ℕ) → i < length t → starts_with nat_eq (drop i t) part ≡ true → moved i (place_of part (drop i t)) ≡ total → Some i ≡ total
place_found part t i total h e so_far =
    let z : i ≡ 0 + i = omega arith in
    ap Some z
    ∙ (sym (ap (moved i) (place_step part t i h ∙ ap (λ (b : Bool). cond b (Some 0) (option_map (λ n. n + 1) (place_of part (drop (i + 1) t)))) e))
    ∙ so_far)

pub place_onward : (part t : List ℕ) (i : ℕ) (total : Option ℕ) → i < length t → starts_with nat_eq (drop i t) part ≡ false
    → moved i (place_of part (drop i t)) ≡ total → moved (i + 1) (place_of part (drop (i + 1) t)) ≡ total
place_onward part t i total h e so_far =
    sym (moved_on i (place_of part (drop (i + 1) t)))
    ∙ (sym (ap (moved i) (place_step part t i h ∙ ap (λ (b : Bool). cond b (Some 0) (option_map (λ n. n + 1) (place_of part (drop (i + 1) t)))) e))
    ∙ so_far)

pub place_nowhere : (part t : List ℕ) (i : ℕ) (total : Option ℕ) → length t ≤ i → moved i (place_of part (drop i t)) ≡ total → None ≡ total
unfolding place_of
place_nowhere part t i total h so_far = sym (ap (moved i) (at_drop_all (place_of part) t i h)) ∙ so_far

pub place_begins : (part t : List ℕ) (total : Option ℕ) → place_of part t ≡ total → moved 0 (place_of part (drop 0 t)) ≡ total
place_begins part t total e = kept (place_of part t) ∙ e
  where
    kept : (o : Option ℕ) → moved 0 o ≡ o
    kept None = refl
    kept (Some n) = let e : n + 0 ≡ n = omega arith in ap Some e

-- the number after one more digit, if it is one
abbrev pub with_digit : ℕ → ℕ → Option ℕ
with_digit n b = cond (is_digit b && nat_lt (10 * n + (b - 48)) (2 ^ 64)) (Some (10 * n + (b - 48))) None

abbrev pub and_then_number : Option ℕ → List ℕ → Option ℕ
and_then_number None s = None
and_then_number (Some n) s = number_from n s

number_cons : (n b : ℕ) (s : List ℕ) → number_from n (b ∷ s) ≡ and_then_number (with_digit n b) s
unfolding number_from
number_cons n b s = split (is_digit b && nat_lt (10 * n + (b - 48)) (2 ^ 64))
  where
    split : (t : Bool) → cond t (number_from (10 * n + (b - 48)) s) None ≡ and_then_number (cond t (Some (10 * n + (b - 48))) None) s
    split true = refl
    split false = refl

number_step : (n : ℕ) (s : List ℕ) (i : ℕ) → i < length s → number_from n (drop i s) ≡ and_then_number (with_digit n (get_or s i 0)) (drop (i + 1) s)
number_step n s i h = at_drop_more (number_from n) s i 0 h ∙ number_cons n (get_or s i 0) (drop (i + 1) s)

pub number_stop : (n : ℕ) (s : List ℕ) (i : ℕ) (total : Option ℕ) → i < length s → None ≡ with_digit n (get_or s i 0) → number_from n (drop i s) ≡ total → None ≡ total
number_stop n s i total h e t = ap (λ (o : Option ℕ). and_then_number o (drop (i + 1) s)) e ∙ (sym (number_step n s i h) ∙ t)

pub number_go : (n after : ℕ) (s : List ℕ) (i : ℕ) (total : Option ℕ) → i < length s → Some after ≡ with_digit n (get_or s i 0) → number_from n (drop i s) ≡ total → number_from after (drop (i + 1) s) ≡ total
number_go n after s i total h e t = ap (λ (o : Option ℕ). and_then_number o (drop (i + 1) s)) e ∙ (sym (number_step n s i h) ∙ t)

pub number_end : (n : ℕ) (s : List ℕ) (i : ℕ) (total : Option ℕ) → length s ≤ i → number_from n (drop i s) ≡ total → Some n ≡ total
unfolding number_from
number_end n s i total h t = sym (at_drop_all (number_from n) s i h) ∙ t

pub number_begins : (s : List ℕ) → 0 < length s → number_from 0 s ≡ number_in s
unfolding number_in
number_begins [] h = absurd (omega arith)
number_begins (b ∷ bs) h = refl

pub number_empty : (s : List ℕ) → length s ≡ 0 → None ≡ number_in s
unfolding number_in
number_empty [] h = refl
number_empty (b ∷ bs) h = absurd (omega (arith, h))
