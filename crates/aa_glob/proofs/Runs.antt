-- How long a run of signs is, and what the signs of a text are, byte by byte.
use Rattle.std.proofs.lemmas.Grind.{common_steps}
use Rattle.std.proofs.Common.{◌≡◌, ℕ, suc, ◌+◌, ◌<◌, ◌≤◌, Bool, true, false, List, [], ◌∷◌, ◌++◌, length, drop, get_or, cond, refl, arith, ap, append_assoc, ne_eqb}
use Rattle.std.proofs.lemmas.List.{at_drop_more, at_drop_all, append-nil}
use Rattle.aa_glob.specs.declared.sign.Sign.{Sign}
use Rattle.aa_glob.specs.Signs.{signs_from, stands_for, plain}
use Rattle.aa_glob.specs.Classes.{class_len}
use Rattle.aa_glob.specs.Reading.{stars}

-- A run that ends where a test says so, of n in all: where it stops, goes on, and meets the end.
pub stops_at : (n i here there : ℕ) (b : Bool) → here ≡ cond b 0 (suc there) → b ≡ true → n ≡ i + here → i ≡ n
stops_at n i here there true step e so_far = omega arith
stops_at n i here there false step e so_far = absurd cc

pub goes_at : (n i here there : ℕ) (b : Bool) → here ≡ cond b 0 (suc there) → b ≡ false → n ≡ i + here → n ≡ i + 1 + there
goes_at n i here there true step e so_far = absurd cc
goes_at n i here there false step e so_far = omega arith

-- The same of a run that goes on where the test holds.
pub stops_not : (n i here there : ℕ) (b : Bool) → here ≡ cond b (suc there) 0 → b ≡ false → n ≡ i + here → i ≡ n
stops_not n i here there false step e so_far = omega arith
stops_not n i here there true step e so_far = absurd cc

pub goes_yet : (n i here there : ℕ) (b : Bool) → here ≡ cond b (suc there) 0 → b ≡ true → n ≡ i + here → n ≡ i + 1 + there
goes_yet n i here there false step e so_far = absurd cc
goes_yet n i here there true step e so_far = omega arith

pub ends_at : (F : List Sign → ℕ) (s : List Sign) (n i : ℕ) → F [] ≡ 0 → length s ≤ i → i ≤ length s → n ≡ i + F (drop i s) → length s ≡ n
ends_at F s n i nil le ge so_far = omega (arith, at_drop_all F s i le)

pub class_step : (s : List Sign) (i : ℕ) (d : Sign) → i < length s → class_len (drop i s) ≡ cond (stands_for 93 (get_or s i d)) 0 (suc (class_len (drop (i + 1) s)))
unfolding class_len
class_step s i d h = at_drop_more class_len s i d h

pub class_nil : class_len [] ≡ 0
unfolding class_len
class_nil = refl

pub stars_step : (s : List Sign) (i : ℕ) (d : Sign) → i < length s → stars (drop i s) ≡ cond (stands_for 42 (get_or s i d)) (suc (stars (drop (i + 1) s))) 0
unfolding stars
stars_step s i d h = at_drop_more stars s i d h

pub stars_nil : stars [] ≡ 0
unfolding stars
stars_nil = refl

-- One byte more of a text, in the loop over it.

pub signs_kept : (kept kept2 : Bool) (front front2 all : List Sign) (s : List ℕ) (i : ℕ) → i < length s → kept ≡ true → kept2 ≡ false →
    front2 ≡ front ++ record { kept = true; byte = get_or s i 0 } ∷ [] → front ++ signs_from kept (drop i s) ≡ all → front2 ++ signs_from kept2 (drop (i + 1) s) ≡ all
unfolding signs_from
signs_kept kept kept2 front front2 all s i h is is2 more inv = grind (arith, common_steps, append_assoc, at_drop_more)

pub signs_slash : (kept kept2 : Bool) (front front2 all : List Sign) (s : List ℕ) (i : ℕ) → i < length s → kept ≡ false → kept2 ≡ true → get_or s i 0 ≡ 92 →
    front2 ≡ front → front ++ signs_from kept (drop i s) ≡ all → front2 ++ signs_from kept2 (drop (i + 1) s) ≡ all
unfolding signs_from
signs_slash kept kept2 front front2 all s i h is is2 slash more inv = grind (arith, common_steps, at_drop_more)

signs_other : (b : ℕ) (bs : List ℕ) → (b ≡ 92 → ⊥) → signs_from false (b ∷ bs) ≡ plain b ∷ signs_from false bs
unfolding signs_from
signs_other b bs ne = ap (λ t. cond t (signs_from true bs) (plain b ∷ signs_from false bs)) (ne_eqb b 92 ne)

pub signs_plain : (kept kept2 : Bool) (front front2 all : List Sign) (s : List ℕ) (i : ℕ) → i < length s → kept ≡ false → kept2 ≡ false → (get_or s i 0 ≡ 92 → ⊥) →
    front2 ≡ front ++ plain (get_or s i 0) ∷ [] → front ++ signs_from kept (drop i s) ≡ all → front2 ++ signs_from kept2 (drop (i + 1) s) ≡ all
signs_plain kept kept2 front front2 all s i h is is2 other more inv = grind (arith, common_steps, append_assoc, at_drop_more, signs_other)

pub signs_end_kept : (kept : Bool) (front front2 all : List Sign) (s : List ℕ) (i : ℕ) → length s ≤ i → kept ≡ true → front2 ≡ front ++ plain 92 ∷ [] →
    front ++ signs_from kept (drop i s) ≡ all → front2 ≡ all
unfolding signs_from
signs_end_kept kept front front2 all s i h is more inv = grind (arith, common_steps, at_drop_all)

pub signs_end : (kept : Bool) (front front2 all : List Sign) (s : List ℕ) (i : ℕ) → length s ≤ i → kept ≡ false → front2 ≡ front →
    front ++ signs_from kept (drop i s) ≡ all → front2 ≡ all
unfolding signs_from
signs_end kept front front2 all s i h is more inv = grind (arith, common_steps, at_drop_all, append-nil)
