-- What can't be a line's words, word by word.
use Rattle.std.proofs.Common.{◌≡◌, ℕ, ◌+◌, ◌-◌, ◌<◌, ◌≤◌, get_or, take, drop}
use Rattle.std.proofs.Common.{Bool, true, false, cond, List, [], ◌∷◌, length, Option, Some, None, refl, sym, ◌∙◌, ap, arith}
use Rattle.std.specs.Prelude.{◌||◌, ◌&&◌, not, nat_lt, count_by, option_map, unwrap_or}
use Rattle.std.specs.List.{list_any}
use Rattle.std.proofs.lemmas.List.{take_all}
use Rattle.std.proofs.lemmas.List.Sums.{sum_by-cons}
use Rattle.aa_logs.specs.declared.word.LogWord.{LogWord}
use Rattle.aa_logs.specs.Words.{WordData, word_data, words_data}
use Rattle.aa_logs.specs.Records.{begins_stamp, is_false_stamp, is_open, is_broken, stamped_by}

-- words are broken, behind others in which a stamp has come or none
pub breaks_from : Bool → List LogWord → Bool
breaks_from s [] = false
breaks_from s (w ∷ ws) = unwrap_or (option_map (λ t. breaks_from t ws) (stamped_by s (word_data w))) true

-- whether one is open or false, or there are two stamps
abbrev told : Bool → List WordData → Bool
told s ws = list_any is_open ws || list_any is_false_stamp ws || nat_lt 1 (cond s 1 0 + count_by begins_stamp ws)

-- one word more, by what it is
more : (o b f s all_o all_f : Bool) (m : ℕ) (rec : Bool → Bool) → (f ≡ true → b ≡ true)
    → ((t : Bool) → rec t ≡ (all_o || all_f || nat_lt 1 (cond t 1 0 + m)))
    → unwrap_or (option_map rec (cond o None (cond (not b) (Some s) (cond (s || f) None (Some true))))) true
    ≡ ((o || all_o) || (f || all_f) || nat_lt 1 (cond s 1 0 + (cond b 1 0 + m)))
more true b f s all_o all_f m rec is so = refl
more false false true s all_o all_f m rec is so = absurd (cc (is refl))
more false false false s all_o all_f m rec is so =
    so s ∙ ap (λ (n : ℕ). all_o || all_f || nat_lt 1 (cond s 1 0 + n)) (let e : m ≡ 0 + m = omega arith in e)
more false true true true true all_f m rec is so = refl
more false true true true false all_f m rec is so = refl
more false true true false true all_f m rec is so = refl
more false true true false false all_f m rec is so = refl
more false true false true all_o all_f m rec is so = sym (at_end all_o all_f _ (two m))
  where
    two : (m : ℕ) → nat_lt 1 (1 + (1 + m)) ≡ true
    two m = search arith

    at_end : (p q r : Bool) → r ≡ true → (p || q || r) ≡ true
    at_end true q r e = refl
    at_end false true r e = refl
    at_end false false r e = e
more false true false false all_o all_f m rec is so =
    so true ∙ ap (λ (n : ℕ). all_o || all_f || nat_lt 1 n) (let e : 1 + m ≡ 0 + (1 + m) = omega arith in e)

stamp_first : (p q : Bool) → (p && q) ≡ true → p ≡ true
stamp_first true q e = refl
stamp_first false q e = absurd (cc e)

broken_from : (s : Bool) (ws : List LogWord) → breaks_from s ws ≡ told s (words_data ws)
unfolding breaks_from
broken_from true [] = refl
broken_from false [] = refl
broken_from s (w ∷ ws) =
    let d = word_data w in
    let rest = words_data ws in
    more (is_open d) (begins_stamp d) (is_false_stamp d) s (list_any is_open rest) (list_any is_false_stamp rest)
    (count_by begins_stamp rest) (λ t. breaks_from t ws)
    (stamp_first _ _) (λ t. broken_from t ws)
    ∙ ap (λ (n : ℕ). list_any is_open (words_data (w ∷ ws)) || list_any is_false_stamp (words_data (w ∷ ws)) || nat_lt 1 (cond s 1 0 + n))
    (sym (sum_by-cons (λ (x : WordData). cond (begins_stamp x) 1 0) d (words_data ws)))

pub broken_so : (ws : List LogWord) → breaks_from false ws ≡ is_broken (words_data ws)
unfolding is_broken
broken_so ws =
    let all = words_data ws in
    let none : 0 + count_by begins_stamp all ≡ count_by begins_stamp all = omega arith in
    broken_from false ws ∙ ap (λ (n : ℕ). list_any is_open all || list_any is_false_stamp all || nat_lt 1 n) none

-- behind a word that no line has beside those before it
pub breaks_none : (d : LogWord) (s : Bool) (rest : List LogWord) (all : Bool) → 1 ≤ length rest
    → None ≡ stamped_by s (word_data (get_or rest 0 d)) → breaks_from s rest ≡ all → true ≡ all
unfolding breaks_from
breaks_none d s [] all long none so_far = absurd (omega arith)
breaks_none d s (w ∷ ws) all long none so_far = ap (λ (o : Option Bool). unwrap_or (option_map (λ t. breaks_from t ws) o) true) none ∙ so_far

pub breaks_some : (d : LogWord) (s t : Bool) (rest : List LogWord) (all : Bool) → 1 ≤ length rest
    → Some t ≡ stamped_by s (word_data (get_or rest 0 d)) → breaks_from s rest ≡ all
    → breaks_from t (take (length rest - 1) (drop 1 rest)) ≡ all
unfolding breaks_from
breaks_some d s t [] all long some so_far = absurd (omega arith)
breaks_some d s t (w ∷ ws) all long some so_far =
    ap (breaks_from t) (take_all (length (w ∷ ws) - 1) ws (omega arith))
    ∙ ap (λ (o : Option Bool). unwrap_or (option_map (λ t. breaks_from t ws) o) true) some ∙ so_far

pub breaks_end : (s : Bool) (rest : List LogWord) (all : Bool) → length rest < 1 → breaks_from s rest ≡ all → false ≡ all
unfolding breaks_from
breaks_end s [] all short so_far = so_far
breaks_end s (w ∷ ws) all short so_far = absurd (omega arith)
