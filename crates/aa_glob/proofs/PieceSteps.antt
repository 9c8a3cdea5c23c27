-- Names and pieces, byte by byte.
use Rattle.std.proofs.Common.{◌≡◌, ℕ, zero, suc, ◌+◌, ◌<◌, ◌≤◌, Bool, true, false, List, [], ◌∷◌, length, drop, get_or, cond}
use Rattle.std.proofs.Common.{◌==◌, not, refl, arith, sym, ap, ◌∙◌, ◌||◌, ◌&&◌, Option, Some, None}
use Rattle.std.proofs.lemmas.List.{at_drop_more, at_drop_all}
use Rattle.aa_glob.specs.Signs.{is_letter_or_digit}
use Rattle.aa_glob.specs.Pieces.{Piece, Plain, Use, Broken, name_len, name_at, behind_name, begins_with, pieces_from}

pub name_step : (s : List ℕ) (i d : ℕ) → i < length s → name_len (drop i s) ≡ cond (is_letter_or_digit (get_or s i d) || (get_or s i d == 95)) (suc (name_len (drop (i + 1) s))) 0
unfolding name_len
name_step s i d h = at_drop_more name_len s i d h

pub names_end : (s : List ℕ) (n i : ℕ) → length s ≤ i → i ≤ length s → n ≡ i + name_len (drop i s) → length s ≡ n
unfolding name_len
names_end s n i le ge so_far = omega (arith, at_drop_all name_len s i le)

-- bytes that belong to the piece before
pub pieces_skip : (n : ℕ) (s : List ℕ) → pieces_from false n s ≡ pieces_from false 0 (drop n s)
unfolding pieces_from
pieces_skip zero s = refl
pieces_skip (suc n) [] = refl
pieces_skip (suc n) (b ∷ s) = pieces_skip n s

-- a byte comes first
pub part_plain : (kept : Bool) (b : ℕ) (s : List ℕ) (keep : Bool) → (not kept && (b == 64) && begins_with 123 s) ≡ false → keep ≡ (not kept && (b == 92)) →
    pieces_from kept 0 (b ∷ s) ≡ Plain b ∷ pieces_from keep 0 s
unfolding pieces_from
part_plain kept b s keep e k = grind arith

-- what a name would be comes first
pub part_named : (kept : Bool) (b : ℕ) (s : List ℕ) (rest : List Piece) → (not kept && (b == 64) && begins_with 123 s) ≡ true → behind_name (name_at (drop 1 s)) (λ n. pieces_from false n s) ≡ rest →
    pieces_from kept 0 (b ∷ s) ≡ rest
unfolding pieces_from
part_named kept b s rest e is = grind arith

pub part_use : (o : Option (List ℕ)) (name s : List ℕ) (n : ℕ) → o ≡ Some name → n ≡ length name → behind_name o (λ k. pieces_from false k s) ≡ Use name ∷ pieces_from false 0 (drop (n + 2) s)
part_use o name s n e k = ap (λ p. behind_name p (λ m. pieces_from false m s)) e ∙ ap (λ ps. Use name ∷ ps) (pieces_skip (length name + 2) s) ∙ ap (λ m. Use name ∷ pieces_from false 0 (drop (m + 2) s)) (sym k)

pub part_broken : (o : Option (List ℕ)) (s : List ℕ) (n : ℕ) → o ≡ None → length s ≤ n → behind_name o (λ k. pieces_from false k s) ≡ Broken ∷ pieces_from false 0 (drop n s)
unfolding pieces_from
part_broken o s n e le = ap (λ p. behind_name p (λ m. pieces_from false m s)) e ∙ sym (at_drop_all (λ t. Broken ∷ pieces_from false 0 t) s n le)

pub part_none : (kept : Bool) (s : List ℕ) → length s ≤ 0 → pieces_from kept 0 s ≡ []
unfolding pieces_from
part_none kept [] h = refl
part_none kept (b ∷ s) h = absurd (omega arith)
