-- Where characters are cut.
use Rattle.std.proofs.Common.{◌≡◌, ℕ, zero, suc, ◌-◌, ◌<◌, ◌≤◌, Bool, true, false, List, [], ◌∷◌, length, take, drop, get_or, refl, sym, ◌∙◌, arith}
use Rattle.aa_text.specs.Places.{goes_on}
use Rattle.aa_text.specs.Excerpts.{from_character, character_end}
use Rattle.aa_text.proofs.Lines.{behind_one}

pub rest_stops : (text s : List ℕ) (b : Bool) → 0 < length s → b ≡ goes_on (get_or s 0 0) → b ≡ false → from_character text ≡ from_character s → s ≡ from_character text
unfolding from_character
rest_stops text [] b h e is so_far = absurd (omega arith)
rest_stops text (x ∷ xs) b h e is so_far = sym (so_far ∙ rw (sym e ∙ is) refl)

pub rest_goes : (text s : List ℕ) (b : Bool) → 0 < length s → b ≡ goes_on (get_or s 0 0) → b ≡ true → from_character text ≡ from_character s → from_character text ≡ from_character (take (length s - 1) (drop 1 s))
unfolding from_character
rest_goes text [] b h e is so_far = absurd (omega arith)
rest_goes text (x ∷ xs) b h e is so_far = rw (behind_one x xs) (so_far ∙ rw (sym e ∙ is) refl)

pub rest_ends : (text s : List ℕ) → length s < 1 → from_character text ≡ from_character s → s ≡ from_character text
unfolding from_character
rest_ends text [] h so_far = sym so_far
rest_ends text (x ∷ xs) h so_far = absurd (omega arith)

pub end_stops : (line : List ℕ) (at end : ℕ) (b : Bool) → 0 < end → b ≡ goes_on (get_or line end 0) → b ≡ false → character_end line at ≡ character_end line end → end ≡ character_end line at
unfolding character_end
end_stops line at zero b h e is so_far = absurd (omega arith)
end_stops line at (suc n) b h e is so_far = sym (so_far ∙ rw (sym e ∙ is) refl)

less_one : (n : ℕ) → suc n - 1 ≡ n
less_one n = omega arith

pub end_goes : (line : List ℕ) (at end : ℕ) (b : Bool) → 0 < end → b ≡ goes_on (get_or line end 0) → b ≡ true → character_end line at ≡ character_end line end → character_end line at ≡ character_end line (end - 1)
unfolding character_end
end_goes line at zero b h e is so_far = absurd (omega arith)
end_goes line at (suc n) b h e is so_far = rw (less_one n) (so_far ∙ rw (sym e ∙ is) refl)

pub end_ends : (line : List ℕ) (at end : ℕ) → end ≤ 0 → character_end line at ≡ character_end line end → end ≡ character_end line at
unfolding character_end
end_ends line at zero h so_far = sym so_far
end_ends line at (suc n) h so_far = absurd (omega arith)
