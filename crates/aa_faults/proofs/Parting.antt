-- The first statement of words, and the others.
use Rattle.std.proofs.Common.{ℕ, suc, ◌≡◌, ◌<◌, ◌∙◌, List, [], ◌∷◌, length, take, drop, Bool, true, false, cond, Some, refl, ap, sym, arith}
use Rattle.std.specs.Prelude.{find, ◌||◌}
use Rattle.std.specs.List.{list_any}
use Rattle.std.proofs.lemmas.List.{length-map, take-map, drop-map}
use Rattle.aa_base.specs.declared.fault.Spot.{Spot}
use Rattle.aa_words.specs.declared.word.Word.{Word}
use Rattle.aa_words.specs.Splits.{WordData, word_data, words_data}
use Rattle.aa_faults.specs.Statements.{parts, with_first, statements, first_length, stands_at, has_word_at, statement_at}

-- words begin with their first statement, and go on with the others
pub first_apart : (w : WordData) (ws : List WordData) → statements (w ∷ ws) ≡ take (first_length (w ∷ ws)) (w ∷ ws) ∷ statements (drop (first_length (w ∷ ws)) (w ∷ ws))
first_apart w [] = refl
first_apart w (v ∷ vs) =
    let n = first_length (v ∷ vs) in
    elim (parts w (v ∷ vs)) as (λ b. cond b ((w ∷ []) ∷ statements (v ∷ vs)) (with_first w (statements (v ∷ vs)))
    ≡ take (cond b 1 (suc n)) (w ∷ v ∷ vs) ∷ statements (drop (cond b 1 (suc n)) (w ∷ v ∷ vs)))
    [ true ↦ refl | false ↦ ap (with_first w) (first_apart v vs) ]

-- what is found in words: their first statement where that has a word at the place, else what is found behind it
pub found_by_first : (at : Spot) (ws : List WordData) → 0 < length ws
    → statement_at at ws ≡ cond (has_word_at at (take (first_length ws) ws)) (Some (take (first_length ws) ws)) (statement_at at (drop (first_length ws) ws))
found_by_first at [] some = absurd (omega arith)
found_by_first at (w ∷ ws) some = ap (find (has_word_at at)) (first_apart w ws)

-- the same, where one takes the words apart before they are seen as data
pub found_apart : (at : Spot) (ws : List Word) (n : ℕ) → 0 < length ws → n ≡ first_length (words_data ws)
    → statement_at at (words_data ws) ≡ cond (has_word_at at (words_data (take n ws))) (Some (words_data (take n ws))) (statement_at at (words_data (drop n ws)))
found_apart at ws n some is_n =
    let some_data : 0 < length (words_data ws) = omega (arith, length-map ws word_data) in
    let by_data : (k : ℕ) → k ≡ n → statement_at at (words_data ws)
    ≡ cond (has_word_at at (take k (words_data ws))) (Some (take k (words_data ws))) (statement_at at (drop k (words_data ws))) → statement_at at (words_data ws)
    ≡ cond (has_word_at at (words_data (take n ws))) (Some (words_data (take n ws))) (statement_at at (words_data (drop n ws))) =
    λ k is e. e ∙ ap (λ i. cond (has_word_at at (take i (words_data ws))) (Some (take i (words_data ws))) (statement_at at (drop i (words_data ws)))) is
    ∙ ap (λ (s : List WordData). cond (has_word_at at s) (Some s) (statement_at at (drop n (words_data ws)))) (take-map word_data n ws)
    ∙ ap (λ (s : List WordData). cond (has_word_at at (words_data (take n ws))) (Some (words_data (take n ws))) (statement_at at s)) (drop-map word_data n ws) in
    by_data (first_length (words_data ws)) (sym is_n) (found_by_first at (words_data ws) some_data)

pub found_here : (at : Spot) (ws : List Word) (n : ℕ) → 0 < length ws → n ≡ first_length (words_data ws) → has_word_at at (words_data (take n ws)) ≡ true
    → statement_at at (words_data ws) ≡ Some (words_data (take n ws))
found_here at ws n some is_n here =
    found_apart at ws n some is_n ∙ ap (λ b. cond b (Some (words_data (take n ws))) (statement_at at (words_data (drop n ws)))) here

pub found_behind : (at : Spot) (ws : List Word) (n : ℕ) → 0 < length ws → n ≡ first_length (words_data ws) → has_word_at at (words_data (take n ws)) ≡ false
    → statement_at at (words_data ws) ≡ statement_at at (words_data (drop n ws))
found_behind at ws n some is_n not_here =
    found_apart at ws n some is_n ∙ ap (λ b. cond b (Some (words_data (take n ws))) (statement_at at (words_data (drop n ws)))) not_here

-- the same asked of words and of their data
pub any_at : (at : Spot) (ws : List Word) → list_any (λ w. stands_at at (word_data w)) ws ≡ has_word_at at (words_data ws)
any_at at [] = refl
any_at at (w ∷ ws) = ap (λ (b : Bool). stands_at at (word_data w) || b) (any_at at ws)
