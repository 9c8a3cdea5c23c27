-- Rules on capabilities read in one way alone, and the sets that their numbers make.
use Rattle.std.proofs.Common.{◌≡◌, ℕ, ◌≤◌, ◌<◌, ◌-◌, ◌^◌, List, [], ◌∷◌, ◌++◌, Some, None, refl, sym, ap, subst, ◌∙◌, arith}
use Rattle.std.specs.Prelude.{codes, bit_or}
use Rattle.std.proofs.lemmas.Nat.{le_or_l, le_or_r, pow_pos}
use Rattle.aa_words.specs.declared.word.WordKind.TheVariants.{Name}
use Rattle.aa_words.specs.Splits.{WordData}
use Rattle.aa_model.specs.declared.rule.CapRule.{CapRule}
use Rattle.aa_rules.specs.declared.tree.Qualifiers.{Qualifiers}
use Rattle.aa_rules.specs.CapRules.{NamesEnd, IsCapName, numbers_bits, all_caps, caps_of, IsCaps, IsCap}
use Rattle.aa_rules.specs.Phrases.{Many, Starts}
use Rattle.aa_base.specs.Tables.{number_in, capability_names}
use Rattle.aa_rules.proofs.Phrases.{starts_same, keyword_once}
use Rattle.std.proofs.lemmas.Option.{same_Some}
use Rattle.aa_rules.proofs.Repetition.{Reads, many_once}

-- ---- one reading alone

name_once : (ws : List WordData) (m n : ℕ) (r s : List WordData) → IsCapName ws m r → IsCapName ws n s → (m ≡ n) × (r ≡ s)
name_once ws m n r s a b =
    let w = starts_same ws a.name b.name r s a.stands.words b.stands.words in
    (same_Some m n (sym a.in_table ∙ ap (λ (x : WordData). number_in capability_names x.text) w.0 ∙ b.in_table), w.1)

pub names_end_once : (ws r s : List WordData) → NamesEnd ws r → NamesEnd ws s → r ≡ s
names_end_once ws r s a b = a.0 ∙ sym b.0

name_apart : (ws : List WordData) (n : ℕ) (r s : List WordData) → IsCapName ws n r → NamesEnd ws s → ⊥
name_apart ws n r s a b = b.1 a.name r a.stands

-- the names of a rule
pub cap_names_read : Reads IsCapName NamesEnd
cap_names_read = record { once = name_once; ends_once = names_end_once; apart = name_apart }

abbrev rule : Qualifiers → List ℕ → CapRule
rule q numbers = record { audit = q.audit; deny = q.deny; caps = record { 0 = caps_of numbers } }

caps_once : (q : Qualifiers) (ws : List WordData) (x y : CapRule) (r s : List WordData) → IsCaps q ws x r → IsCaps q ws y s → (x ≡ y) × (r ≡ s)
caps_once q ws x y r s a b =
    let n = many_once IsCapName NamesEnd cap_names_read ws a.numbers b.numbers r s a.names_stand b.names_stand in
    (a.rule_is ∙ ap (rule q) n.0 ∙ sym b.rule_is, n.1)

pub cap_once : (q : Qualifiers) (ws : List WordData) (x y : CapRule) (r s : List WordData) → IsCap q ws x r → IsCap q ws y s → (x ≡ y) × (r ≡ s)
cap_once q ws x y r s a b =
    let k = keyword_once (codes "capability") ws a.0 b.0 a.1 b.1 in
    caps_once q b.0 x y r s (subst (λ (z : List WordData). IsCaps q z x r) k a.2) b.2

-- the names of a rule that doesn't read
pub no_caps : (q : Qualifiers) (ws : List WordData) (x : CapRule) (rest : List WordData) → ((ns : List ℕ) (r : List WordData) → Many IsCapName NamesEnd ws ns r → ⊥) → IsCaps q ws x rest → ⊥
no_caps q ws x rest h a = h a.numbers rest a.names_stand

-- ---- sets

-- one number more
pub bits_more : (bits n : ℕ) (ns : List ℕ) → numbers_bits bits (ns ++ n ∷ []) ≡ bit_or (numbers_bits bits ns) (2 ^ n)
unfolding numbers_bits
bits_more bits n [] = refl
bits_more bits n (m ∷ ns) = bits_more (bit_or bits (2 ^ m)) n ns

bits_grow : (bits : ℕ) (ns : List ℕ) → bits ≤ numbers_bits bits ns
unfolding numbers_bits
bits_grow bits [] = omega arith
bits_grow bits (n ∷ ns) = omega (arith, le_or_l bits (2 ^ n), bits_grow (bit_or bits (2 ^ n)) ns)

bits_positive : (n : ℕ) (ns : List ℕ) → 0 < numbers_bits 0 (n ∷ ns)
unfolding numbers_bits
bits_positive n ns = omega (arith, pow_pos n, le_or_r 0 (2 ^ n), bits_grow (bit_or 0 (2 ^ n)) ns)

no_bits : (numbers : List ℕ) → numbers ≡ [] → numbers_bits 0 numbers ≡ 0
unfolding numbers_bits
no_bits [] e = refl
no_bits (n ∷ ns) e = absurd cc

-- the table has 41 names
all_are : all_caps ≡ 2 ^ 41 - 1
unfolding capability_names
all_are = refl

-- no bit says that no name stands there
pub caps_all : (numbers : List ℕ) → numbers_bits 0 numbers ≡ 0 → caps_of numbers ≡ 2 ^ 41 - 1
caps_all [] e = all_are
caps_all (n ∷ ns) e = absurd (omega (arith, e, bits_positive n ns))

pub caps_some : (numbers : List ℕ) → (numbers_bits 0 numbers ≡ 0 → ⊥) → caps_of numbers ≡ numbers_bits 0 numbers
caps_some [] h = absurd (h (no_bits [] refl))
caps_some (n ∷ ns) h = refl

-- ---- a name that no table has

none_some : (n : ℕ) → None ≡ Some n → ⊥
none_some n e = cc

pub no_name : (ws : List WordData) (w : WordData) (rest : List WordData) → Starts Name ws w rest → None ≡ number_in capability_names w.text → (n : ℕ) (r : List WordData) → IsCapName ws n r → ⊥
no_name ws w rest s e n r a =
    let same = starts_same ws w a.name rest r s.words a.stands.words in
    none_some n (e ∙ ap (λ (x : WordData). number_in capability_names x.text) same.0 ∙ a.in_table)

pub not_the_end : (ws : List WordData) (w : WordData) (rest : List WordData) → Starts Name ws w rest → (r : List WordData) → NamesEnd ws r → ⊥
not_the_end ws w rest s r e = e.1 w rest s
