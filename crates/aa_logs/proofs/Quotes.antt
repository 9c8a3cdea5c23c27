-- The quote that closes a value, as a search finds it.
use Rattle.std.proofs.Common.{◌≡◌, ℕ, ◌<◌, ◌==◌, Bool, true, List, length, take, min, get_or, cond, sym, ◌∙◌, ap, arith, le_refl, Option, Some, None}
use Rattle.std.specs.Prelude.{position, nat_lt, IfSome}
use Rattle.std.specs.List.{position_or_len}
use Rattle.std.proofs.lemmas.Bool.{lt-ltb, le-ltb}
use Rattle.std.proofs.lemmas.List.{get_or-take, length-take}
use Rattle.std.proofs.lemmas.List.Quantifiers.{position-Some}
use Rattle.std.proofs.lemmas.List.Sums.{position_or_len_is}
use Rattle.memchr.specs.Find.{IsFirstByte, is_byte}
use Rattle.aa_logs.proofs.Cutting.{not_true}

abbrev is_quote : ℕ → Bool
is_quote c = c == 34

abbrev place_by : List ℕ → ℕ → Option ℕ
place_by text n = cond (nat_lt n (length text)) (Some n) None

pub quote_found : (text : List ℕ) (r : Option ℕ) → IsFirstByte (is_byte 34) text r → r ≡ position (λ c. c == 34) text
quote_found text None nowhere =
    let e : position_or_len is_quote text ≡ length text =
    position_or_len_is is_quote text (length text) 0 (le_refl (length text)) (λ k lt. not_true _ (nowhere k (omega arith) lt)) (λ lt. absurd (omega arith)) in
    sym (ap (place_by text) e ∙ ap (λ (t : Bool). cond t (Some (length text)) None) (le-ltb (length text) (length text) (le_refl (length text))))
quote_found text (Some n) there =
    let first = there.0 in
    let e : position_or_len is_quote text ≡ n =
    position_or_len_is is_quote text n 0 (omega (arith, first.high)) (λ k lt. not_true _ (first.before k (omega arith) lt)) (λ lt. there.1) in
    sym (ap (place_by text) e ∙ ap (λ (t : Bool). cond t (Some n) None) (lt-ltb n (length text) first.high))

pub quote_within : (text : List ℕ) (r : Option ℕ) → IsFirstByte (is_byte 34) text r → IfSome r (λ n. n < length text)
quote_within text None nowhere = tt
quote_within text (Some n) there = there.0.high

-- a quote that is the first among a text's first bytes is the first in it
first_among : (n : ℕ) (text : List ℕ) (k : ℕ) → Some k ≡ position is_quote (take n text) → (k < length text) × (Some k ≡ position is_quote text)
first_among n text k e =
    let first = position-Some is_quote (take n text) k 0 (sym e) in
    let near : k < n = omega (arith, first.0, length-take n text) in
    let within : k < length text = omega (arith, first.0, length-take n text) in
    let there : is_quote (get_or text k 0) ≡ true = ap is_quote (sym (get_or-take n text k 0 near)) ∙ first.1 in
    let at : position_or_len is_quote text ≡ k =
    position_or_len_is is_quote text k 0 (omega (arith, within)) (λ j lt. ap is_quote (sym (get_or-take n text j 0 (omega (arith, near, lt)))) ∙ first.2 j lt) (λ lt. there) in
    (within, sym (ap (place_by text) at ∙ ap (λ (t : Bool). cond t (Some k) None) (lt-ltb k (length text) within)))

pub near_found : (text : List ℕ) (k : ℕ) → Some k ≡ position (λ c. c == 34) (take (min 8 (length text)) text) → Some k ≡ position (λ c. c == 34) text
near_found text k e = (first_among (min 8 (length text)) text k e).1

pub near_within : (text : List ℕ) (k : ℕ) → Some k ≡ position (λ c. c == 34) (take (min 8 (length text)) text) → k < length text
near_within text k e = (first_among (min 8 (length text)) text k e).0
