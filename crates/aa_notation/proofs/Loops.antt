-- Loops over a word: the first place of a part, letters one by one.
use Rattle.std.proofs.Common.{◌≡◌, ℕ, ◌+◌, ◌<◌, ◌≤◌, Bool, true, false, List, [], ◌∷◌, length, drop}
use Rattle.std.proofs.Common.{get_or, cond, refl, sym, ◌∙◌, ap, arith, Option, Some, None, nat_eq, option_map, option_and_then, bit_or}
use Rattle.std.specs.List.{starts_with}
use Rattle.std.proofs.lemmas.List.{at_drop_more, at_drop_all}
use Rattle.aa_notation.specs.Parts.{place_of}
use Rattle.aa_notation.specs.Read.{letter_in, letters_in}
use Rattle.aa_logs.proofs.Found.{drop_one, drop_some, moved, moved_on}

-- a part stands first, or behind the first byte
place_case : (part t : List ℕ) → 0 < length t → place_of part t ≡ cond (starts_with nat_eq t part) (Some 0) (option_map (λ n. n + 1) (place_of part (drop 1 t)))
unfolding place_of
place_case part [] h = absurd (omega arith)
place_case part (b ∷ bs) h = refl

place_step : (part t : List ℕ) (i : ℕ) → i < length t → place_of part (drop i t) ≡ cond (starts_with nat_eq (drop i t) part) (Some 0) (option_map (λ n. n + 1) (place_of part (drop (i + 1) t)))
place_step part t i h =
    place_case part (drop i t) (drop_some i t h)
    ∙ ap (λ (u : List ℕ). cond (starts_with nat_eq (drop i t) part) (Some 0) (option_map (λ n. n + 1) (place_of part u))) (drop_one i t h)

pub place_found : (part t : List ℕ) (i : ℕ) (total : Option ℕ) → i < length t → starts_with nat_eq (drop i t) part ≡ true → moved i (place_of part (drop i t)) ≡ total → Some i ≡ total
place_found part t i total h e so_far =
    let z : i ≡ 0 + i = omega arith in
    ap Some z
    ∙ (sym (ap (moved i) (place_step part t i h ∙ ap (λ (b : Bool). cond b (Some 0) (option_map (λ n. n + 1) (place_of part (drop (i + 1) t)))) e))
    ∙ so_far)

pub place_onward : (part t : List ℕ) (i : ℕ) (total : Option ℕ) → i < length t → starts_with nat_eq (drop i t) part ≡ false
    → moved i (place_of part (drop i t)) ≡ total → moved (i + 1) (place_of part (drop (i + 1) t)) ≡ total
place_onward part t i total h e so_far =
    sym (moved_on i (place_of part (drop (i + 1) t)))
    ∙ (sym (ap (moved i) (place_step part t i h ∙ ap (λ (b : Bool). cond b (Some 0) (option_map (λ n. n + 1) (place_of part (drop (i + 1) t)))) e))
    ∙ so_far)

pub place_nowhere : (part t : List ℕ) (i : ℕ) (total : Option ℕ) → length t ≤ i → moved i (place_of part (drop i t)) ≡ total → None ≡ total
unfolding place_of
place_nowhere part t i total h so_far = sym (ap (moved i) (at_drop_all (place_of part) t i h)) ∙ so_far

pub place_begins : (part t : List ℕ) (total : Option ℕ) → place_of part t ≡ total → moved 0 (place_of part (drop 0 t)) ≡ total
place_begins part t total e = kept (place_of part t) ∙ e
  where
    kept : (o : Option ℕ) → moved 0 o ≡ o
    kept None = refl
    kept (Some n) = let e : n + 0 ≡ n = omega arith in ap Some e

pub letters_step : (bits : ℕ) (s : List ℕ) (i : ℕ) → i < length s → letters_in bits (drop i s) ≡ option_and_then (λ b. letters_in (bit_or bits b) (drop (i + 1) s)) (letter_in (get_or s i 0))
unfolding letters_in
letters_step bits s i h = at_drop_more (letters_in bits) s i 0 h

pub letters_stop : (bits : ℕ) (s : List ℕ) (i : ℕ) (total : Option ℕ) → i < length s → None ≡ letter_in (get_or s i 0) → letters_in bits (drop i s) ≡ total → None ≡ total
letters_stop bits s i total h e t = ap (option_and_then (λ b. letters_in (bit_or bits b) (drop (i + 1) s))) e ∙ sym (letters_step bits s i h) ∙ t

pub letters_go : (bits : ℕ) (s : List ℕ) (i : ℕ) (total : Option ℕ) (b after : ℕ) → i < length s → Some b ≡ letter_in (get_or s i 0)
    → after ≡ bit_or bits b → letters_in bits (drop i s) ≡ total → letters_in after (drop (i + 1) s) ≡ total
letters_go bits s i total b after h e a t =
    ap (λ (n : ℕ). letters_in n (drop (i + 1) s)) a ∙ ap (option_and_then (λ b. letters_in (bit_or bits b) (drop (i + 1) s))) e ∙ sym (letters_step bits s i h) ∙ t

pub letters_end : (bits : ℕ) (s : List ℕ) (i : ℕ) (total : Option ℕ) → length s ≤ i → letters_in bits (drop i s) ≡ total → Some bits ≡ total
unfolding letters_in
letters_end bits s i total h t = sym (at_drop_all (letters_in bits) s i h) ∙ t
