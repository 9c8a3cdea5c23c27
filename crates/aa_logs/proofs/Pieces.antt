-- Reading piece by piece.
use Rattle.std.proofs.Common.{◌≡◌, ℕ, zero, suc, ◌+◌, ◌-◌, ◌<◌, Bool, true, false, not, List, [], ◌∷◌, ◌++◌, length, take, drop, cond, refl, sym, ◌∙◌, ap, arith, append_assoc}
use Rattle.std.specs.Prelude.{option_to_list, Option, Some, None, position, ◌==◌, ◌&&◌, nat_lt}
use Rattle.std.proofs.lemmas.List.{length-drop, take_all, append-nil}
use Rattle.aa_logs.specs.Words.{is_separator, run_len, key_len, quoted_piece, field_piece, keyed_piece, first_piece, words_behind, words_of, WordData, PieceData}

-- the words behind so many bytes are those of what stands there
pub words_behind-drop : (n : ℕ) (line : List ℕ) → words_behind n line ≡ words_of (drop n line)
unfolding words_behind
words_behind-drop zero line = refl
words_behind-drop (suc n) [] = refl
words_behind-drop (suc n) (b ∷ bs) = words_behind-drop n bs

drop_rest : (n : ℕ) (b : ℕ) (bs : List ℕ) → 0 < n → drop (n - 1) bs ≡ drop n (b ∷ bs)
drop_rest zero b bs h = absurd (omega arith)
drop_rest (suc n) b bs h = let e : suc n - 1 ≡ n = omega arith in ap (λ (k : ℕ). drop k bs) e

pub words_of-first : (line : List ℕ) → 0 < length line → 0 < (first_piece line).bytes
    → words_of line ≡ option_to_list ((first_piece line).word) ++ words_of (drop ((first_piece line).bytes) line)
unfolding words_behind
words_of-first [] h k = absurd (omega arith)
words_of-first (b ∷ bs) h k = ap (λ (t : List WordData). option_to_list ((first_piece (b ∷ bs)).word) ++ t) (words_behind-drop ((first_piece (b ∷ bs)).bytes - 1) bs ∙ ap words_of (drop_rest ((first_piece (b ∷ bs)).bytes) b bs k))

either_way : (t : Bool) (p q : PieceData) → 0 < p.bytes → (t ≡ false → 0 < q.bytes) → 0 < (cond t p q).bytes
either_way true p q h k = h
either_way false p q h k = k refl

run_so : (s : Bool) (n : ℕ) → s ≡ false → 0 < cond (not s) (1 + n) 0
run_so true n h = absurd cc
run_so false n h = omega arith

quoted_onward : (key value : List ℕ) (close : Option ℕ) → 0 < (quoted_piece key value close).bytes
quoted_onward key value None = omega arith
quoted_onward key value (Some n) = omega arith

field_onward : (key value : List ℕ) → 0 < (field_piece key value).bytes
unfolding field_piece
field_onward key [] = omega arith
field_onward key (b ∷ bs) =
    let opening : 0 < length key + 2 = omega arith in
    let plain : 0 < length key + 1 + run_len (b ∷ bs) = omega arith in
    either_way (b == 34) _ _ (quoted_onward key (b ∷ bs) (position (λ c. c == 34) bs)) (λ no. either_way (b == 39) _ _ opening (λ nor. plain))

keyed_onward : (line key behind : List ℕ) → 0 < run_len line → 0 < (keyed_piece line key behind).bytes
keyed_onward line key [] h = h
keyed_onward line key (b ∷ value) h = either_way (nat_lt 0 (length key) && b == 61) _ _ (field_onward key value) (λ no. h)

-- something stands first in a line that isn't empty
pub first_onward : (line : List ℕ) → 0 < length line → 0 < (first_piece line).bytes
unfolding first_piece
first_onward [] h = absurd (omega arith)
first_onward (b ∷ bs) h =
    let one : 0 < 1 = omega arith in
    either_way (is_separator b) _ _ one (λ no. keyed_onward (b ∷ bs) (take (key_len (b ∷ bs)) (b ∷ bs)) (drop (key_len (b ∷ bs)) (b ∷ bs)) (run_so (is_separator b) _ no))

pub all_behind : (n : ℕ) (s : List ℕ) → take (length s - n) (drop n s) ≡ drop n s
all_behind n s = take_all (length s - n) (drop n s) (omega (arith, length-drop n s))

pub read_smaller : (s : List ℕ) (n : ℕ) → 0 < length s → n ≡ (first_piece s).bytes → length (take (length s - n) (drop n s)) < length s
read_smaller s n h e = rw (all_behind n s, length-drop n s) (omega (arith, e, first_onward s h))

pub read_more : (s : List ℕ) (old new total : List WordData) (w : Option WordData) (n : ℕ) → 0 < length s → n ≡ (first_piece s).bytes → w ≡ (first_piece s).word
    → new ≡ old ++ option_to_list w → old ++ words_of s ≡ total → new ++ words_of (take (length s - n) (drop n s)) ≡ total
read_more s old new total w n h e f pushed so_far =
    ap (λ (t : List ℕ). new ++ words_of t) (all_behind n s)
    ∙ (ap (λ (t : List WordData). t ++ words_of (drop n s)) pushed
    ∙ (append_assoc old (option_to_list w) (words_of (drop n s))
    ∙ (ap (λ (t : List WordData). old ++ t)
    (ap (λ (v : Option WordData). option_to_list v ++ words_of (drop n s)) f
    ∙ (ap (λ (k : ℕ). option_to_list ((first_piece s).word) ++ words_of (drop k s)) e ∙ sym (words_of-first s h (first_onward s h))))
    ∙ so_far)))

pub read_all : (s : List ℕ) (old total : List WordData) → length s ≡ 0 → old ++ words_of s ≡ total → old ≡ total
unfolding words_behind
read_all [] old total h so_far = sym (append-nil old) ∙ so_far
read_all (b ∷ bs) old total h so_far = absurd (omega arith)
