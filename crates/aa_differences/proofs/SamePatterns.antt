-- Patterns of the same items match the same texts, are literal alike, and have fronts of one length.
use Rattle.std.proofs.Common.{◌≡◌, ℕ, suc, List, [], ◌∷◌, Bool, true, false, refl, sym, ap, ◌∙◌, arith, cond, length, take}
use Rattle.std.specs.Prelude.{IsTrue, ◌&&◌, ◌+◌}
use Rattle.std.specs.List.{AllZip, list_all, prefix_len, take_while}
use Rattle.aa_pattern.specs.declared.item.Item.{Item}
use Rattle.aa_pattern.specs.Globs.{is_byte}
use Rattle.aa_pattern.specs.declared.pattern.Pattern.{Pattern}
use Rattle.aa_pattern.specs.Matching.{is_match}
use Rattle.aa_pattern.proofs.Decided.{decided}
use Rattle.aa_compile.specs.Patterns.{is_literal}
use Rattle.aa_compile.specs.Attached.{front_of}
use Rattle.aa_compile.specs.FileRules.{some_match, any_sort}
use Rattle.aa_differences.specs.Sameness.{SameItem, SamePattern}
use Rattle.aa_differences.proofs.Zipped.{items_match}
use Rattle.aa_differences.proofs.Rows.{any_alike}

same_bool : (a b : Bool) → (IsTrue a → IsTrue b) → (IsTrue b → IsTrue a) → a ≡ b
same_bool true b f g = sym (f refl)
same_bool false true f g = g refl
same_bool false false f g = refl

pub match_alike : (items others : List Item) → AllZip SameItem items others → (text : List ℕ) → is_match items text ≡ is_match others text
match_alike items others h text =
    let same = items_match items others h text in
    same_bool (is_match items text) (is_match others text)
    (λ m. (decided others text).1 (same.0 ((decided items text).0 m)))
    (λ m. (decided items text).1 (same.1 ((decided others text).0 m)))

all_bytes_alike : (items others : List Item) → AllZip SameItem items others → list_all is_byte items ≡ list_all is_byte others
all_bytes_alike [] [] h = refl
all_bytes_alike (a ∷ as') (b ∷ bs) h = ap (λ (x : Bool). x && list_all is_byte as') h.0.byte ∙ ap (λ (x : Bool). is_byte b && x) (all_bytes_alike as' bs h.1)
all_bytes_alike [] (b ∷ bs) h = absurd h
all_bytes_alike (a ∷ as') [] h = absurd h

pub literal_alike : (p q : Pattern) → SamePattern p q → is_literal p ≡ is_literal q
literal_alike p q h = all_bytes_alike p.items.items q.items.items h

one_more : (a : Item) (as' : List Item) (n : ℕ) → length (take (1 + n) (a ∷ as')) ≡ suc (length (take n as'))
one_more a as' n = ap (λ (k : ℕ). length (take k (a ∷ as'))) (next n)
  where
    next : (n : ℕ) → 1 + n ≡ suc n
    next n = omega arith

fronts_alike : (items others : List Item) → AllZip SameItem items others → length (take_while is_byte items) ≡ length (take_while is_byte others)
fronts_alike [] [] h = refl
fronts_alike (a ∷ as') (b ∷ bs) h = by (is_byte a) (is_byte b) h.0.byte (fronts_alike as' bs h.1)
  where
    by : (x y : Bool) → x ≡ y → length (take_while is_byte as') ≡ length (take_while is_byte bs) →
        length (take (cond x (1 + prefix_len is_byte as') 0) (a ∷ as')) ≡ length (take (cond y (1 + prefix_len is_byte bs) 0) (b ∷ bs))
    by true true e rest = one_more a as' (prefix_len is_byte as') ∙ ap suc rest ∙ sym (one_more b bs (prefix_len is_byte bs))
    by false false e rest = refl
    by true false e rest = absurd cc
    by false true e rest = absurd cc
fronts_alike [] (b ∷ bs) h = absurd h
fronts_alike (a ∷ as') [] h = absurd h

pub front_alike : (p q : Pattern) → SamePattern p q → front_of p ≡ front_of q
front_alike p q h = fronts_alike p.items.items q.items.items h

-- a sort of patterns that doesn't depend on where they lie
abbrev pub IsSort : (Pattern → Bool) → Type 0
IsSort sort = (p q : Pattern) → SamePattern p q → sort p ≡ sort q

pub any_is_sort : IsSort any_sort
any_is_sort p q h = refl

pub some_match_alike : (sort : Pattern → Bool) → IsSort sort → (path : List ℕ) (ps qs : List Pattern) → AllZip SamePattern ps qs → some_match sort path ps ≡ some_match sort path qs
some_match_alike sort is path ps qs h =
    any_alike SamePattern (λ p. sort p && is_match p.items.items path) (λ p. sort p && is_match p.items.items path)
    (λ p q s. ap (λ (x : Bool). x && is_match p.items.items path) (is p q s) ∙ ap (λ (x : Bool). sort q && x) (match_alike p.items.items q.items.items s path)) ps qs h
