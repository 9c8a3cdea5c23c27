-- The letters of a mode, one by one.
use Rattle.std.proofs.Common.{◌≡◌, ℕ, ◌+◌, ◌<◌, List, [], ◌∷◌, ◌++◌, refl, length, drop, get_or, Option, Some, None, ap, sym, ◌∙◌, ◌≤◌}
use Rattle.std.specs.Prelude.{option_and_then, bit_or}
use Rattle.std.proofs.lemmas.List.{at_drop_more, at_drop_all}
use Rattle.aa_rules.specs.Modes.{letter_bits, letters_bits}

pub letters_step : (bits : ℕ) (s : List ℕ) (i : ℕ) → i < length s → letters_bits bits (drop i s) ≡ option_and_then (λ b. letters_bits (bit_or bits b) (drop (i + 1) s)) (letter_bits (get_or s i 0))
unfolding letters_bits
letters_step bits s i h = at_drop_more (letters_bits bits) s i 0 h

pub letters_stop : (bits : ℕ) (s : List ℕ) (i : ℕ) (total : Option ℕ) → i < length s → None ≡ letter_bits (get_or s i 0) → letters_bits bits (drop i s) ≡ total → None ≡ total
letters_stop bits s i total h e t = ap (option_and_then (λ b. letters_bits (bit_or bits b) (drop (i + 1) s))) e ∙ sym (letters_step bits s i h) ∙ t

pub letters_go : (bits : ℕ) (s : List ℕ) (i : ℕ) (total : Option ℕ) (b after : ℕ) → i < length s → Some b ≡ letter_bits (get_or s i 0)
    → after ≡ bit_or bits b → letters_bits bits (drop i s) ≡ total → letters_bits after (drop (i + 1) s) ≡ total
letters_go bits s i total b after h e a t =
    ap (λ (n : ℕ). letters_bits n (drop (i + 1) s)) a ∙ ap (option_and_then (λ b. letters_bits (bit_or bits b) (drop (i + 1) s))) e ∙ sym (letters_step bits s i h) ∙ t

pub letters_end : (bits : ℕ) (s : List ℕ) (i : ℕ) (total : Option ℕ) → length s ≤ i → letters_bits bits (drop i s) ≡ total → Some bits ≡ total
unfolding letters_bits
letters_end bits s i total h t = sym (at_drop_all (letters_bits bits) s i h) ∙ t

and_then_joined : (whole first : ℕ → Option ℕ) (then : ℕ → Option ℕ) → ((b : ℕ) → whole b ≡ option_and_then then (first b)) → (o : Option ℕ)
    → option_and_then whole o ≡ option_and_then then (option_and_then first o)
and_then_joined whole first then h None = refl
and_then_joined whole first then h (Some b) = h b

-- the letters of two runs, one after the other
pub letters_joined : (bits : ℕ) (front back : List ℕ) → letters_bits bits (front ++ back) ≡ option_and_then (λ b. letters_bits b back) (letters_bits bits front)
unfolding letters_bits
letters_joined bits [] back = refl
letters_joined bits (c ∷ cs) back =
    and_then_joined (λ b. letters_bits (bit_or bits b) (cs ++ back)) (λ b. letters_bits (bit_or bits b) cs) (λ b. letters_bits b back) (λ b. letters_joined (bit_or bits b) cs back) (letter_bits c)

none_joined : (first whole : Option ℕ) (back : List ℕ) → None ≡ first → whole ≡ option_and_then (λ b. letters_bits b back) first → None ≡ whole
none_joined first whole back e w = ap (option_and_then (λ b. letters_bits b back)) e ∙ sym w

some_joined : (first whole : Option ℕ) (b : ℕ) (back : List ℕ) → Some b ≡ first → whole ≡ option_and_then (λ b. letters_bits b back) first → letters_bits b back ≡ whole
some_joined first whole b back e w = ap (option_and_then (λ b. letters_bits b back)) e ∙ sym w

pub joined_none : (front back : List ℕ) → None ≡ letters_bits 0 front → None ≡ letters_bits 0 (front ++ back)
joined_none front back e = none_joined _ _ back e (letters_joined 0 front back)

pub joined_some : (front back : List ℕ) (b : ℕ) → Some b ≡ letters_bits 0 front → letters_bits b back ≡ letters_bits 0 (front ++ back)
joined_some front back b e = some_joined _ _ b back e (letters_joined 0 front back)
