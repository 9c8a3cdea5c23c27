-- How long a run is, byte by byte.
use Rattle.std.proofs.Common.{◌≡◌, ℕ, suc, ◌+◌, ◌<◌, ◌≤◌, Bool, true, false, List, [], ◌∷◌, length, take, drop, ◌-◌, get_or, cond, refl, arith, unwrap_or, ◌&&◌, ◌==◌, Some, None, if◌then◌else◌}
use Rattle.std.proofs.lemmas.List.{at_drop_more, at_drop_all, length-drop, take_all}
use Rattle.aa_words.specs.declared.runs.PathPlace.{PathPlace}
use Rattle.aa_words.specs.declared.skips.SkipPlace.{SkipPlace}
use Rattle.aa_words.specs.Runs.{begins_with, ends_value, value_len, ends_quote, quote_next, quote_len, quoted_len, ends_skip, skip_next, skip_start, skip_len}
use Rattle.aa_words.specs.Runs.{skipped_len, ends_name, ends_comment, ends_path, path_next, name_len, comment_len, path_len, ends_variable, variable_len}
use Rattle.aa_words.specs.Runs.{begins_with_letter, closes_before_sign, assigned_len}

-- A run that goes on while a test fails, of n bytes in all: where it stops, goes on, and meets the end of the text.
pub stops_at : (n i here there : ℕ) (b : Bool) → here ≡ cond b 0 (suc there) → b ≡ true → n ≡ i + here → i ≡ n
stops_at n i here there true step e so_far = omega arith
stops_at n i here there false step e so_far = absurd cc

pub goes_at : (n i here there : ℕ) (b : Bool) → here ≡ cond b 0 (suc there) → b ≡ false → n ≡ i + here → n ≡ i + 1 + there
goes_at n i here there true step e so_far = absurd cc
goes_at n i here there false step e so_far = omega arith

pub ends_at : (F : List ℕ → ℕ) (s : List ℕ) (n i : ℕ) → F [] ≡ 0 → length s ≤ i → i ≤ length s → n ≡ i + F (drop i s) → length s ≡ n
ends_at F s n i nil le ge so_far = omega (arith, at_drop_all F s i le)

-- the range from n on, as code takes it
pub to_end : (s : List ℕ) (n : ℕ) → take (length s - n) (drop n s) ≡ drop n s
to_end s n = take_all (length s - n) (drop n s) (omega (arith, length-drop n s))

pub name_step : (s : List ℕ) (i : ℕ) → i < length s → name_len (drop i s) ≡ cond (ends_name (get_or s i 0) (take (length s - (i + 1)) (drop (i + 1) s))) 0 (suc (name_len (drop (i + 1) s)))
unfolding name_len
name_step s i h = rw to_end (at_drop_more name_len s i 0 h)

pub name_nil : name_len [] ≡ 0
unfolding name_len
name_nil = refl

pub comment_step : (s : List ℕ) (i : ℕ) → i < length s → comment_len (drop i s) ≡ cond (ends_comment (get_or s i 0)) 0 (suc (comment_len (drop (i + 1) s)))
unfolding comment_len
comment_step s i h = at_drop_more comment_len s i 0 h

pub comment_nil : comment_len [] ≡ 0
unfolding comment_len
comment_nil = refl

pub path_step : (p : PathPlace) (s : List ℕ) (i : ℕ) → i < length s
    → path_len p (drop i s) ≡ cond (ends_path p (get_or s i 0) (take (length s - (i + 1)) (drop (i + 1) s))) 0
    (suc (path_len (path_next p (get_or s i 0)) (drop (i + 1) s)))
unfolding path_len
path_step p s i h = rw to_end (at_drop_more (path_len p) s i 0 h)

pub path_nil : (p : PathPlace) → path_len p [] ≡ 0
unfolding path_len
path_nil p = refl

-- no run is longer than the text
pub name_le : (s : List ℕ) → name_len s ≤ length s
unfolding name_len
name_le [] = omega arith
name_le (b ∷ bs) = elim (ends_name b bs) as (λ v. cond v 0 (suc (name_len bs)) ≤ suc (length bs)) [ true ↦ omega arith | false ↦ omega (arith, name_le bs) ]

pub comment_le : (s : List ℕ) → comment_len s ≤ length s
unfolding comment_len
comment_le [] = omega arith
comment_le (b ∷ bs) = elim (ends_comment b) as (λ v. cond v 0 (suc (comment_len bs)) ≤ suc (length bs)) [ true ↦ omega arith | false ↦ omega (arith, comment_le bs) ]

pub path_le : (p : PathPlace) (s : List ℕ) → path_len p s ≤ length s
unfolding path_len
path_le p [] = omega arith
path_le p (b ∷ bs) = elim (ends_path p b bs) as (λ v. cond v 0 (suc (path_len (path_next p b) bs)) ≤ suc (length bs)) [ true ↦ omega arith | false ↦ omega (arith, path_le (path_next p b) bs) ]

pub variable_le : (s : List ℕ) → variable_len s ≤ length s
unfolding variable_len
variable_le [] = omega arith
variable_le (b ∷ bs) = elim (ends_variable b) as (λ v. cond v 0 (suc (variable_len bs)) ≤ suc (length bs)) [ true ↦ omega arith | false ↦ omega (arith, variable_le bs) ]

pub variable_step : (s : List ℕ) (i : ℕ) → i < length s → variable_len (drop i s) ≡ cond (ends_variable (get_or s i 0)) 0 (suc (variable_len (drop (i + 1) s)))
unfolding variable_len
variable_step s i h = at_drop_more variable_len s i 0 h

pub variable_nil : variable_len [] ≡ 0
unfolding variable_len
variable_nil = refl

-- where a sign follows, a variable is no longer than the text
closes_short : (s : List ℕ) → closes_before_sign s ≡ true → 0 < length s
closes_short [] h = absurd cc
closes_short (b ∷ bs) h = omega arith

closed_le : (bs : List ℕ) (b : Bool) → closes_before_sign (drop (variable_len bs) bs) ≡ b → unwrap_or (if b then Some (variable_len bs + 2) else None) 0 ≤ suc (length bs)
closed_le bs true h = omega (arith, closes_short (drop (variable_len bs) bs) h, length-drop (variable_len bs) bs)
closed_le bs false h = omega arith

closed_after : (a : Bool) (bs : List ℕ) → unwrap_or (if a && closes_before_sign (drop (variable_len bs) bs) then Some (variable_len bs + 2) else None) 0 ≤ suc (length bs)
closed_after true bs = closed_le bs _ refl
closed_after false bs = omega arith

pub assigned_le : (s : List ℕ) → unwrap_or (assigned_len s) 0 ≤ length s
unfolding assigned_len
assigned_le [] = omega arith
assigned_le (b ∷ bs) = closed_after (b == 123 && begins_with_letter bs) bs

pub value_step : (s : List ℕ) (i : ℕ) → i < length s → value_len (drop i s) ≡ cond (ends_value (get_or s i 0) (take (length s - (i + 1)) (drop (i + 1) s))) 0 (suc (value_len (drop (i + 1) s)))
unfolding value_len
value_step s i h = rw to_end (at_drop_more value_len s i 0 h)

pub value_nil : value_len [] ≡ 0
unfolding value_len
value_nil = refl

pub value_le : (s : List ℕ) → value_len s ≤ length s
unfolding value_len
value_le [] = omega arith
value_le (b ∷ bs) = elim (ends_value b bs) as (λ v. cond v 0 (suc (value_len bs)) ≤ suc (length bs)) [ true ↦ omega arith | false ↦ omega (arith, value_le bs) ]

pub quote_step : (kept : Bool) (s : List ℕ) (i : ℕ) → i < length s → quote_len kept (drop i s) ≡ cond (ends_quote kept (get_or s i 0)) 0 (suc (quote_len (quote_next kept (get_or s i 0)) (drop (i + 1) s)))
unfolding quote_len
quote_step kept s i h = at_drop_more (quote_len kept) s i 0 h

pub quote_nil : (kept : Bool) → quote_len kept [] ≡ 0
unfolding quote_len
quote_nil kept = refl

pub quote_le : (kept : Bool) (s : List ℕ) → quote_len kept s ≤ length s
unfolding quote_len
quote_le kept [] = omega arith
quote_le kept (b ∷ bs) = elim (ends_quote kept b) as (λ v. cond v 0 (suc (quote_len (quote_next kept b) bs)) ≤ suc (length bs)) [ true ↦ omega arith | false ↦ omega (arith, quote_le (quote_next kept b) bs) ]

-- where a quote follows, a text in quotes is no longer than the text
closed_short : (s : List ℕ) → begins_with 34 s ≡ true → 0 < length s
closed_short [] h = absurd cc
closed_short (b ∷ bs) h = omega arith

closing_le : (s : List ℕ) (b : Bool) → begins_with 34 (drop (quote_len false s) s) ≡ b → unwrap_or (if b then Some (suc (quote_len false s)) else None) 0 ≤ length s
closing_le s true h = omega (arith, closed_short (drop (quote_len false s) s) h, length-drop (quote_len false s) s)
closing_le s false h = omega arith

pub quoted_le : (s : List ℕ) → unwrap_or (quoted_len s) 0 ≤ length s
unfolding quoted_len
quoted_le s = closing_le s _ refl

pub skip_step : (p : SkipPlace) (s : List ℕ) (i : ℕ) → i < length s → skip_len p (drop i s) ≡ cond (ends_skip p (get_or s i 0)) 0 (suc (skip_len (skip_next p (get_or s i 0)) (drop (i + 1) s)))
unfolding skip_len
skip_step p s i h = at_drop_more (skip_len p) s i 0 h

pub skip_nil : (p : SkipPlace) → skip_len p [] ≡ 0
unfolding skip_len
skip_nil p = refl

pub skip_le : (p : SkipPlace) (s : List ℕ) → skip_len p s ≤ length s
unfolding skip_len
skip_le p [] = omega arith
skip_le p (b ∷ bs) = elim (ends_skip p b) as (λ v. cond v 0 (suc (skip_len (skip_next p b) bs)) ≤ suc (length bs)) [ true ↦ omega arith | false ↦ omega (arith, skip_le (skip_next p b) bs) ]

pub skipped_le : (s : List ℕ) → skipped_len s ≤ length s
unfolding skipped_len
skipped_le s = omega (arith, name_le s, skip_le skip_start (drop (name_len s) s), length-drop (name_len s) s)
