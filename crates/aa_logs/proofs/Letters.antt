-- The letters of a mask, one by one.
use Rattle.std.proofs.Common.{◌≡◌, ℕ, ◌+◌, ◌<◌, List, length, drop, get_or, Option, Some, None, ap, sym, ◌∙◌, ◌≤◌}
use Rattle.std.specs.Prelude.{option_and_then, bit_or}
use Rattle.std.proofs.lemmas.List.{at_drop_more, at_drop_all}
use Rattle.aa_logs.specs.Masks.{letter_bits, letters_bits}

pub letters_step : (bits : ℕ) (s : List ℕ) (i : ℕ) → i < length s → letters_bits bits (drop i s) ≡ option_and_then (λ b. letters_bits (bit_or bits b) (drop (i + 1) s)) (letter_bits (get_or s i 0))
unfolding letters_bits
letters_step bits s i h = at_drop_more (letters_bits bits) s i 0 h

pub letters_stop : (bits : ℕ) (s : List ℕ) (i : ℕ) (total : Option ℕ) → i < length s → None ≡ letter_bits (get_or s i 0) → letters_bits bits (drop i s) ≡ total → None ≡ total
letters_stop bits s i total h e t = ap (option_and_then (λ b. letters_bits (bit_or bits b) (drop (i + 1) s))) e ∙ sym (letters_step bits s i h) ∙ t

pub letters_go : (bits : ℕ) (s : List ℕ) (i : ℕ) (total : Option ℕ) (b after : ℕ) → i < length s → Some b ≡ letter_bits (get_or s i 0)
    → after ≡ bit_or bits b → letters_bits bits (drop i s) ≡ total → letters_bits after (drop (i + 1) s) ≡ total
letters_go bits s i total b after h e a t =
    ap (λ (n : ℕ). letters_bits n (drop (i + 1) s)) a ∙ ap (option_and_then (λ b. letters_bits (bit_or bits b) (drop (i + 1) s))) e ∙ sym (letters_step bits s i h) ∙ t

pub letters_end : (bits : ℕ) (s : List ℕ) (i : ℕ) (total : Option ℕ) → length s ≤ i → letters_bits bits (drop i s) ≡ total → Some bits ≡ total
unfolding letters_bits
letters_end bits s i total h t = sym (at_drop_all (letters_bits bits) s i h) ∙ t
