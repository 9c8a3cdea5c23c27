-- What the productions are made of stands in one way alone.
use Rattle.std.proofs.Common.{◌≡◌, ℕ, List, ◌∷◌, refl, sym, ap, ◌∙◌, Bool, true, false}
use Rattle.std.specs.Str.{bytes_eq}
use Rattle.std.specs.Cmp.Lexicographic.{nat_list_eq_equiv}
use Rattle.aa_words.specs.declared.word.WordKind.TheVariants.{Name}
use Rattle.aa_words.specs.Splits.{WordData}
use Rattle.aa_rules.specs.Phrases.{Keyword, Optional, StartsAs, is_path_kind}

pub false_true : false ≡ true → ⊥
false_true e = cc

first_same : (v w : WordData) (vs rest : List WordData) → v ∷ vs ≡ w ∷ rest → v ≡ w
first_same v w vs rest e = cc

rest_same : (v w : WordData) (vs rest : List WordData) → v ∷ vs ≡ w ∷ rest → vs ≡ rest
rest_same v w vs rest e = cc

-- what stands first is one word
pub starts_same : (ws : List WordData) (v w : WordData) (vs rest : List WordData) → ws ≡ v ∷ vs → ws ≡ w ∷ rest → (v ≡ w) × (vs ≡ rest)
starts_same ws v w vs rest p q = (first_same v w vs rest (sym p ∙ q), rest_same v w vs rest (sym p ∙ q))

-- and of one kind
pub starts_kind : (ws : List WordData) (v w : WordData) (vs rest : List WordData) → ws ≡ v ∷ vs → ws ≡ w ∷ rest → v.kind ≡ w.kind
starts_kind ws v w vs rest p q = ap (λ (x : WordData). x.kind) (starts_same ws v w vs rest p q).0

pub keyword_once : (text : List ℕ) (ws r s : List WordData) → Keyword text ws r → Keyword text ws s → r ≡ s
keyword_once text ws r s a b = (starts_same ws a.word b.word r s a.stands.words b.stands.words).1

pub optional_once : (text : List ℕ) (ws : List WordData) (b c : Bool) (r s : List WordData) → Optional text ws b r → Optional text ws c s → (b ≡ c) × (r ≡ s)
optional_once text ws true true r s a b = (refl, keyword_once text ws r s a b)
optional_once text ws true false r s a b = absurd (b.1 r a)
optional_once text ws false true r s a b = absurd (a.1 s b)
optional_once text ws false false r s a b = (refl, a.0 ∙ sym b.0)

-- where the words begin with one that is no name, nothing that may be left out stands there
pub no_keyword : (text : List ℕ) (ws : List WordData) (w : WordData) (rest r : List WordData) → ws ≡ w ∷ rest → (w.kind ≡ Name → ⊥) → Keyword text ws r → ⊥
no_keyword text ws w rest r e h a = h (starts_kind ws w a.word rest r e a.stands.words ∙ a.stands.kind_is)

pub left_out : (text : List ℕ) (ws : List WordData) (w : WordData) (rest : List WordData) (b : Bool) (r : List WordData) → ws ≡ w ∷ rest → (w.kind ≡ Name → ⊥) → Optional text ws b r → r ≡ ws
left_out text ws w rest true r e h a = absurd (no_keyword text ws w rest r e h a)
left_out text ws w rest false r e h a = a.0

-- no two keywords stand at one place
pub keyword_apart : (text other : List ℕ) (ws r s : List WordData) → bytes_eq text other ≡ false → Keyword text ws r → Keyword other ws s → ⊥
keyword_apart text other ws r s d a b =
    let w = starts_same ws a.word b.word r s a.stands.words b.stands.words in
    let one = nat_list_eq_equiv.symm text a.word.text ∙ a.is_it in
    let two = ap (λ (x : WordData). bytes_eq x.text other) w.0 ∙ b.is_it in
    false_true (sym d ∙ nat_list_eq_equiv.congr text a.word.text other one ∙ two)

-- where a keyword stands, another that may be left out is left out
pub other_left_out : (text other : List ℕ) (ws r : List WordData) (b : Bool) (bare : List WordData) → bytes_eq text other ≡ false → Keyword text ws r → Optional other ws b bare → bare ≡ ws
other_left_out text other ws r true bare d k o = absurd (keyword_apart text other ws r bare d k o)
other_left_out text other ws r false bare d k o = o.0

-- a keyword is no path
pub keyword_or_path : (text : List ℕ) (ws r : List WordData) (path : WordData) (after : List WordData) → Keyword text ws r → StartsAs is_path_kind ws path after → ⊥
keyword_or_path text ws r path after k p = false_true (sym (ap is_path_kind k.stands.kind_is) ∙ ap is_path_kind (starts_kind ws k.word path r after k.stands.words p.words) ∙ p.kind_fits)
