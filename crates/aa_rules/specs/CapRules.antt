-- Rules on capabilities: the names, and the set that they name.
-- Source: apparmor.d(5), "Capability rules".
use Rattle.std.specs.Prelude.{ℕ, ◌≡◌, ◌^◌, ◌-◌, List, [], ◌∷◌, length, codes, Some, bit_or}
use Rattle.aa_words.specs.declared.word.WordKind.TheVariants.{Name}
use Rattle.aa_words.specs.Splits.{WordData}
use Rattle.aa_model.specs.declared.rule.CapRule.{CapRule}
use Rattle.aa_rules.specs.declared.tree.Qualifiers.{Qualifiers}
use Rattle.aa_rules.specs.Phrases.{Ending, Many, Starts, Lacks, Keyword}
use Rattle.aa_base.specs.Tables.{number_in, capability_names}

-- names end at a word that is none, which is left
abbrev pub NamesEnd : Ending
NamesEnd ws rest = (rest ≡ ws) × Lacks Name ws

-- the name of a capability, by its number
pub record IsCapName (ws : List WordData) (number : ℕ) (rest : List WordData) : Type 0 where
  pub name : WordData
  pub stands : Starts Name ws name rest
  pub in_table : number_in capability_names name.text ≡ Some number

-- the bits so far, and one for each of the numbers
unfoldable pub numbers_bits : ℕ → List ℕ → ℕ
numbers_bits bits [] = bits
numbers_bits bits (n ∷ ns) = numbers_bits (bit_or bits (2 ^ n)) ns

-- the set of all capabilities of the table
abbrev pub all_caps : ℕ
all_caps = 2 ^ length capability_names - 1

-- the capabilities of these numbers; where none is named, all
abbrev pub caps_of : List ℕ → ℕ
caps_of [] = all_caps
caps_of (n ∷ ns) = numbers_bits 0 (n ∷ ns)

-- cap*: what stands behind the keyword
pub record IsCaps (qualifiers : Qualifiers) (ws : List WordData) (rule : CapRule) (rest : List WordData) : Type 0 where
  pub numbers : List ℕ
  pub names_stand : Many IsCapName NamesEnd ws numbers rest
  pub rule_is : rule ≡ record { audit = qualifiers.audit; deny = qualifiers.deny; caps = record { 0 = caps_of numbers } }

-- cap = "capability" cap*
abbrev pub IsCap : Qualifiers → List WordData → CapRule → List WordData → Type 0
IsCap qualifiers ws rule rest = (names : List WordData) × Keyword (codes "capability") ws names × IsCaps qualifiers names rule rest
