-- The word at a place, and those behind it.
use Rattle.std.proofs.Common.{◌≡◌, ℕ, zero, suc, refl, ◌+◌, ◌<◌, ◌≤◌, List, [], ◌∷◌, length, drop, get_or, Bool, true, false, ltb, ap, ◌∙◌, sym, arith}
use Rattle.std.proofs.lemmas.List.{drop_more, drop_all, length-drop, length-map}
use Rattle.std.proofs.lemmas.Bool.{ltb-true, ltb-false}
use Rattle.aa_words.specs.declared.word.Word.{Word}
use Rattle.aa_words.specs.declared.word.WordKind.{WordKind}
use Rattle.aa_words.specs.Splits.{WordData, word_data, words_data}
use Rattle.aa_rules.specs.Grammar.{Starts, Lacks, StartsAs, LacksAll, begins_as}
use Rattle.aa_rules.specs.Reading.{rest_of}
use Rattle.aa_rules.specs.RuleFaults.{Takes}

pub here : (words : List Word) (at : ℕ) (w : Word) → at < length words → w ≡ get_or words at w → rest_of words at ≡ word_data w ∷ rest_of words (at + 1)
here words at w h e = ap words_data (drop_more words at w h) ∙ ap (λ (x : Word). word_data x ∷ rest_of words (at + 1)) (sym e)

pub nothing_here : (words : List Word) (at : ℕ) → length words ≤ at → rest_of words at ≡ []
nothing_here words at h = ap words_data (drop_all at words h)

pub stands_here : (kind : WordKind) (words : List Word) (at : ℕ) (w : Word) → at < length words → w ≡ get_or words at w → w.kind ≡ kind → Starts kind (rest_of words at) (word_data w) (rest_of words (at + 1))
stands_here kind words at w h e k = record { words = here words at w h e; kind_is = k }

head_is : (a b : WordData) (xs ys : List WordData) → a ∷ xs ≡ b ∷ ys → a ≡ b
head_is a b xs ys e = cc

pub lacks_other : (kind : WordKind) (words : List Word) (at : ℕ) (w : Word) → at < length words → w ≡ get_or words at w → (w.kind ≡ kind → ⊥) → Lacks kind (rest_of words at)
lacks_other kind words at w h e k = λ v rest s.
    let same : word_data w ≡ v = head_is (word_data w) v (rest_of words (at + 1)) rest (sym (here words at w h e) ∙ s.words) in
    k (ap (λ (x : WordData). x.kind) same ∙ s.kind_is)

pub no_cons : (v : WordData) (vs : List WordData) → [] ≡ v ∷ vs → ⊥
no_cons v vs e = cc

pub lacks_past : (kind : WordKind) (words : List Word) (at : ℕ) → length words ≤ at → Lacks kind (rest_of words at)
lacks_past kind words at h = λ v rest s. no_cons v rest (sym (nothing_here words at h) ∙ s.words)

-- the same for several kinds
pub fits_here : (fits : WordKind → Bool) (words : List Word) (at : ℕ) (w : Word) → at < length words → w ≡ get_or words at w → true ≡ fits w.kind → StartsAs fits (rest_of words at) (word_data w) (rest_of words (at + 1))
fits_here fits words at w h e k = record { words = here words at w h e; kind_fits = sym k }

not_both : (b : Bool) → false ≡ b → b ≡ true → ⊥
not_both true e f = cc
not_both false e f = cc

pub lacks_here : (fits : WordKind → Bool) (words : List Word) (at : ℕ) (w : Word) → at < length words → w ≡ get_or words at w → false ≡ fits w.kind → LacksAll fits (rest_of words at)
lacks_here fits words at w h e k = λ v rest s.
    let same : word_data w ≡ v = head_is (word_data w) v (rest_of words (at + 1)) rest (sym (here words at w h e) ∙ s.words) in
    not_both (fits w.kind) k (ap (λ (x : WordData). fits x.kind) same ∙ s.kind_fits)

pub lacks_all_past : (fits : WordKind → Bool) (words : List Word) (at : ℕ) → length words ≤ at → LacksAll fits (rest_of words at)
lacks_all_past fits words at h = λ v rest s. no_cons v rest (sym (nothing_here words at h) ∙ s.words)

pub rest_long : (words : List Word) (at : ℕ) → at < length words → 0 < length (rest_of words at)
rest_long words at h = omega (arith, length-map (drop at words) word_data, length-drop at words)

pub something_here : (words : List Word) (at : ℕ) → at < length words → rest_of words at ≡ [] → ⊥
something_here words at h e = omega (arith, rest_long words at h, ap length e)

-- whether a word of one of these kinds stands there
pub begins_here : (fits : WordKind → Bool) (words : List Word) (at : ℕ) (w : Word) (r : Bool) → at < length words → w ≡ get_or words at w → r ≡ fits w.kind → r ≡ begins_as fits (rest_of words at)
begins_here fits words at w r h e k = k ∙ ap (begins_as fits) (sym (here words at w h e))

pub begins_past : (fits : WordKind → Bool) (words : List Word) (at : ℕ) → length words ≤ at → false ≡ begins_as fits (rest_of words at)
begins_past fits words at h = ap (begins_as fits) (sym (nothing_here words at h))

-- the words behind that at a place
behind_next : (words : List Word) (n : ℕ) → rest_of words (suc n) ≡ drop 1 (rest_of words n)
behind_next [] zero = refl
behind_next [] (suc n) = refl
behind_next (w ∷ ws) zero = refl
behind_next (w ∷ ws) (suc n) = behind_next ws n

pub behind_here : (words : List Word) (at : ℕ) → rest_of words (at + 1) ≡ drop 1 (rest_of words at)
behind_here words at = let e : at + 1 ≡ suc at = omega arith in ap (rest_of words) e ∙ behind_next words at

pub behind_past : (words : List Word) (at : ℕ) → length words ≤ at → [] ≡ drop 1 (rest_of words at)
behind_past words at h = ap (drop 1) (sym (nothing_here words at h))

-- words are taken up to a later place, and none up to the same
pub takes : (words : List Word) (at next : ℕ) (b : Bool) → at ≤ next → (at < next → next ≤ length words) → b ≡ ltb at next → Takes (rest_of words at) (rest_of words next) b
takes words at next true o w e = λ same.
    let before : at < next = ltb-true at next (sym e) in
    omega (arith, ap length same, length-map (drop at words) word_data, length-drop at words, length-map (drop next words) word_data, length-drop next words, w before, before)
takes words at next false o w e = let same : next ≡ at = omega (arith, o, ltb-false at next (sym e)) in ap (rest_of words) same
