-- Places rise from byte to byte.
use Rattle.std.proofs.Common.{◌≡◌, ℕ, suc, ◌+◌, ◌-◌, ◌<◌, inl, inr, Bool, true, false, ◌||◌, List, [], ◌∷◌, ◌++◌, length, take, drop, get_or, cond, refl, ◌∙◌, arith, drop-cons}
use Rattle.std.proofs.lemmas.List.Folds.{list_any-append}
use Rattle.std.proofs.lemmas.List.Sums.{sum_by-append}
use Rattle.std.proofs.Math.Seq.{take-add}
use Rattle.std.specs.List.{list_any, count_by}
use Rattle.aa_text.specs.Places.{is_line_end, begins_character, last_line, place_behind, place_in, IsBefore, PlacesRise}
use Rattle.aa_text.proofs.Lines.{one_line, append_so}

or_false : (a : Bool) → (a || false) ≡ a
or_false true = refl
or_false false = refl

any_append : (xs ys : List ℕ) → list_any is_line_end ys ≡ false → list_any is_line_end (xs ++ ys) ≡ list_any is_line_end xs
any_append xs ys none = list_any-append is_line_end xs ys ∙ rw none (or_false (list_any is_line_end xs))

-- bytes behind a text go on with its last line if no line end is among them
pub last_append : (xs ys : List ℕ) → list_any is_line_end ys ≡ false → last_line (xs ++ ys) ≡ last_line xs ++ ys
unfolding last_line
last_append [] ys none = one_line ys none
last_append (x ∷ xs) ys none = rw (any_append xs ys none, last_append xs ys none) (append_so (is_line_end x) (list_any is_line_end xs) (last_line xs) xs ys x)

-- how many bytes pass a test
count_cons : (p : ℕ → Bool) (x : ℕ) (xs : List ℕ) → count_by p (x ∷ xs) ≡ cond (p x) 1 0 + count_by p xs
count_cons p x xs = omega (arith, sum_by-append (λ b. cond (p b) 1 0) (x ∷ []) xs)

some_more : (v a : Bool) (n : ℕ) → (a ≡ true → 0 < n) → (v || a) ≡ true → 0 < cond v 1 0 + n
some_more true a n ih any = omega arith
some_more false a n ih any = let h : 0 < n = ih any in omega arith

some_pass : (p : ℕ → Bool) (s : List ℕ) → list_any p s ≡ true → 0 < count_by p s
some_pass p [] any = absurd cc
some_pass p (x ∷ xs) any = rw (count_cons p x xs) (some_more (p x) (list_any p xs) (count_by p xs) (some_pass p xs) any)

first_passes : (p : ℕ → Bool) (x : ℕ) (xs : List ℕ) → p x ≡ true → 0 < count_by p (x ∷ xs)
first_passes p x xs passes = rw (count_cons p x xs, passes) (omega arith)

none_more : (v a : Bool) (n : ℕ) → (a ≡ false → n ≡ 0) → (v || a) ≡ false → cond v 1 0 + n ≡ 0
none_more true a n ih none = absurd cc
none_more false a n ih none = let h : n ≡ 0 = ih none in omega arith

none_pass : (p : ℕ → Bool) (s : List ℕ) → list_any p s ≡ false → count_by p s ≡ 0
none_pass p [] none = refl
none_pass p (x ∷ xs) none = rw (count_cons p x xs) (none_more (p x) (list_any p xs) (count_by p xs) (none_pass p xs) none)

-- the place behind more bytes is a later one, if a line end or the beginning of a character is among them
later : (xs : List ℕ) (y : ℕ) (ys : List ℕ) (v : Bool) → list_any is_line_end (y ∷ ys) ≡ v → begins_character y ≡ true → IsBefore (place_behind xs) (place_behind (xs ++ y ∷ ys))
unfolding place_behind
later xs y ys true any begins = inl (omega (arith, sum_by-append (λ b. cond (is_line_end b) 1 0) xs (y ∷ ys), some_pass is_line_end (y ∷ ys) any))
later xs y ys false none begins = inr (
  omega (arith, sum_by-append (λ b. cond (is_line_end b) 1 0) xs (y ∷ ys), none_pass is_line_end (y ∷ ys) none),
  rw (last_append xs (y ∷ ys) none) (omega (arith, sum_by-append (λ b. cond (begins_character b) 1 0) (last_line xs) (y ∷ ys), first_passes begins_character y ys begins)),
)

taken : (text : List ℕ) (i k : ℕ) → i < length text → take (i + suc k) text ≡ take i text ++ get_or text i 0 ∷ take k (drop (suc i) text)
taken text i k h = take-add i (suc k) text ∙ rw (drop-cons text i 0 h) refl

apart : (text : List ℕ) (i j k : ℕ) → j ≡ i + suc k → i < length text → begins_character (get_or text i 0) ≡ true → IsBefore (place_in text i) (place_in text j)
apart text i j k is h begins = rw (is, taken text i k h) (later (take i text) (get_or text i 0) (take k (drop (suc i) text)) _ refl begins)

pub places_rise : PlacesRise
places_rise text i j less h begins = apart text i j (j - (i + 1)) (omega arith) h begins
