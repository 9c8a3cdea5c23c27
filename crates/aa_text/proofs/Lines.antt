-- What stands behind the last line end.
use Rattle.std.proofs.Common.{length-append, ap, not, ◌≡◌, ℕ, suc, ◌+◌, ◌-◌, ◌<◌, ◌≤◌, Bool}
use Rattle.std.proofs.Common.{true, false, ◌||◌, List, [], ◌∷◌, ◌++◌, length, take, drop, get_or, cond, refl, sym, ◌∙◌, arith}
use Rattle.std.proofs.lemmas.List.{length-drop, take_all, drop-append-le, take-append-drop}
use Rattle.std.proofs.Math.Seq.{take-append-add}
use Rattle.std.specs.List.{list_any, prefix_len}
use Rattle.std.proofs.lemmas.List.Sums.{prefix_len-le-length}
use Rattle.aa_text.specs.Places.{is_line_end, last_line}

-- what the loop has found: the rest's last line if a line end is to come, else the line behind the last one so far
abbrev pub line_then : List ℕ → List ℕ → List ℕ
line_then rest line = cond (list_any is_line_end rest) (last_line rest) line

pub behind_one : (b : ℕ) (bs : List ℕ) → take (length (b ∷ bs) - 1) (drop 1 (b ∷ bs)) ≡ bs
behind_one b bs = take_all (length (b ∷ bs) - 1) bs (omega arith)

begins_so : (e a : Bool) (later bs s : List ℕ) → cond a later (cond e bs s) ≡ cond (e || a) (cond a later (cond e bs s)) s
begins_so true true later bs s = refl
begins_so true false later bs s = refl
begins_so false true later bs s = refl
begins_so false false later bs s = refl

pub line_begins : (s : List ℕ) → last_line s ≡ line_then s s
unfolding last_line
line_begins [] = refl
line_begins (b ∷ bs) = begins_so (is_line_end b) (list_any is_line_end bs) (last_line bs) bs (b ∷ bs)

goes_so : (e a : Bool) (later bs s line : List ℕ) → cond (e || a) (cond a later (cond e bs s)) line ≡ cond a later (cond e bs line)
goes_so true true later bs s line = refl
goes_so true false later bs s line = refl
goes_so false true later bs s line = refl
goes_so false false later bs s line = refl

pub line_goes : (s line : List ℕ) → 0 < length s → line_then s line ≡ line_then (take (length s - 1) (drop 1 s)) (cond (is_line_end (get_or s 0 0)) (take (length s - 1) (drop 1 s)) line)
unfolding last_line
line_goes [] line h = absurd (omega arith)
line_goes (b ∷ bs) line h = rw (behind_one b bs) (goes_so (is_line_end b) (list_any is_line_end bs) (last_line bs) bs (b ∷ bs) line)

pub line_found : (text s line : List ℕ) → 0 < length s → is_line_end (get_or s 0 0) ≡ true → last_line text ≡ line_then s line → last_line text ≡ line_then (take (length s - 1) (drop 1 s)) (take (length s - 1) (drop 1 s))
line_found text s line h is so_far = so_far ∙ (line_goes s line h ∙ rw is refl)

pub line_passed : (text s line : List ℕ) → 0 < length s → is_line_end (get_or s 0 0) ≡ false → last_line text ≡ line_then s line → last_line text ≡ line_then (take (length s - 1) (drop 1 s)) line
line_passed text s line h is so_far = so_far ∙ (line_goes s line h ∙ rw is refl)

pub line_ends : (s line : List ℕ) → length s < 1 → line_then s line ≡ line
line_ends [] line h = refl
line_ends (b ∷ bs) line h = absurd (omega arith)

-- a text without a line end is one line
pub one_line : (s : List ℕ) → list_any is_line_end s ≡ false → last_line s ≡ s
one_line s none = line_begins s ∙ rw none refl

pub append_so : (e a : Bool) (more bs ys : List ℕ) (b : ℕ) → cond a (more ++ ys) (cond e (bs ++ ys) (b ∷ (bs ++ ys))) ≡ cond a more (cond e bs (b ∷ bs)) ++ ys
append_so true true more bs ys b = refl
append_so true false more bs ys b = refl
append_so false true more bs ys b = refl
append_so false false more bs ys b = refl

-- the last line is the text's end
le_so : (a e : Bool) (l bs : List ℕ) (b : ℕ) → length l ≤ length bs → length (cond a l (cond e bs (b ∷ bs))) ≤ length (b ∷ bs)
le_so true e l bs b h = omega arith
le_so false true l bs b h = omega arith
le_so false false l bs b h = omega arith

pub last_le : (s : List ℕ) → length (last_line s) ≤ length s
unfolding last_line
last_le [] = omega arith
last_le (b ∷ bs) = le_so (list_any is_line_end bs) (is_line_end b) (last_line bs) bs b (last_le bs)

suffix_so : (a e : Bool) (l bs : List ℕ) (b : ℕ) → length l ≤ length bs → drop (length bs - length l) bs ≡ l → drop (length (b ∷ bs) - length (cond a l (cond e bs (b ∷ bs)))) (b ∷ bs) ≡ cond a l (cond e bs (b ∷ bs))
suffix_so true e l bs b h so = let k : length (b ∷ bs) - length l ≡ suc (length bs - length l) = omega arith in rw k so
suffix_so false true l bs b h so = let k : length (b ∷ bs) - length bs ≡ suc 0 = omega arith in rw k refl
suffix_so false false l bs b h so = let k : length (b ∷ bs) - length (b ∷ bs) ≡ 0 = omega arith in rw k refl

pub last_suffix : (s : List ℕ) → drop (length s - length (last_line s)) s ≡ last_line s
unfolding last_line
last_suffix [] = refl
last_suffix (b ∷ bs) = suffix_so (list_any is_line_end bs) (is_line_end b) (last_line bs) bs b (last_le bs) (last_suffix bs)

-- a part of a text that stands on both sides of a place
pub across : (front rest : List ℕ) (start n : ℕ) → start ≤ length front → take ((length front + n) - start) (drop start (front ++ rest)) ≡ drop start front ++ take n rest
across front rest start n h =
    let k : (length front + n) - start ≡ length (drop start front) + n = omega (arith, length-drop start front) in
    rw (k, drop-append-le start front rest h) (take-append-add (drop start front) rest n)

joined : (front rest text : List ℕ) (n : ℕ) → text ≡ front ++ rest → take ((length front + n) - (length front - length (last_line front))) (drop (length front - length (last_line front)) text) ≡ last_line front ++ take n rest
joined front rest text n is = rw is (across front rest (length front - length (last_line front)) n (omega arith) ∙ rw (last_suffix front) refl)

pub line_across : (text : List ℕ) (byte n : ℕ)
    → take ((length (take byte text) + n) - (length (take byte text) - length (last_line (take byte text))))
    (drop (length (take byte text) - length (last_line (take byte text))) text) ≡ last_line (take byte text) ++ take n (drop byte text)
line_across text byte n = joined (take byte text) (drop byte text) text n (sym (take-append-drop byte text))

-- a text's front with the first line behind it is no longer than the text
pub front_le : (text : List ℕ) (byte : ℕ) → length (take byte text) + prefix_len (λ b. not (is_line_end b)) (drop byte text) ≤ length text
front_le text byte = omega (arith, prefix_len-le-length (λ b. not (is_line_end b)) (drop byte text), length-append (take byte text) (drop byte text), ap length (take-append-drop byte text))
