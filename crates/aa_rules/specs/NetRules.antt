-- Rules on sockets: the names, and the families and types that they name together.
-- Source: apparmor.d(5), "Network rules".
use Rattle.std.specs.Prelude.{ℕ, ◌≡◌, ◌^◌, ◌+◌, ◌-◌, List, [], ◌∷◌, codes, Bool, ◌||◌, ◌==◌, if◌then◌else◌, Option, Some, None, option_map, option_and_then}
use Rattle.std.specs.Option.{option_or}
use Rattle.std.specs.Str.{bytes_eq}
use Rattle.aa_words.specs.declared.word.WordKind.TheVariants.{Name}
use Rattle.aa_words.specs.Splits.{WordData}
use Rattle.aa_model.specs.declared.rule.NetRule.{NetRule}
use Rattle.aa_rules.specs.declared.tree.Qualifiers.{Qualifiers}
use Rattle.aa_rules.specs.declared.net_rules.Sockets.{Sockets}
use Rattle.aa_rules.specs.CapRules.{NamesEnd}
use Rattle.aa_rules.specs.Phrases.{Many, Starts, Keyword}
use Rattle.aa_base.specs.Tables.{number_in, family_names, sock_type_names}

-- bit n of a set stands for number n of its table
abbrev pub sockets : ℕ → ℕ → Sockets
sockets families kinds = record { families = families; kinds = kinds }

-- the set of all 44 families, and that of all 6 types
abbrev pub all_families : ℕ
all_families = 2 ^ 44 - 1

-- all types of sockets
abbrev pub all_kinds : ℕ
all_kinds = 2 ^ 6 - 1

-- a name that stands for a type in the internet's families: tcp is stream, udp is dgram
unfoldable pub transport_kinds : List ℕ → Option ℕ
transport_kinds name = if bytes_eq name (codes "tcp") then Some (2 ^ 0) else (if bytes_eq name (codes "udp") then Some (2 ^ 1) else None)

-- the set of one entry
abbrev pub one_in : List (List ℕ) → List ℕ → Option ℕ
one_in table name = option_map (λ n. 2 ^ n) (number_in table name)

-- inet and inet6
abbrev pub internet : ℕ
internet = 2 ^ 1 + 2 ^ 9

-- one name: a family with all types, or else a type in all families, or else a type in the internet's
unfoldable pub one_name : List ℕ → Option Sockets
one_name name =
    option_or (option_map (λ f. sockets f all_kinds) (one_in family_names name))
    (option_or (option_map (λ k. sockets all_families k) (one_in sock_type_names name)) (option_map (λ k. sockets internet k) (transport_kinds name)))

-- inet alone, inet6 alone
abbrev pub is_internet : ℕ → Bool
is_internet families = families == 2 ^ 1 || families == 2 ^ 9

-- the type that a name stands for behind a family
unfoldable pub kinds_in : ℕ → List ℕ → Option ℕ
kinds_in families name = option_or (one_in sock_type_names name) (if is_internet families then transport_kinds name else None)

-- two names: a family, then its type
unfoldable pub two_names : List ℕ → List ℕ → Option Sockets
two_names first second = option_and_then (λ f. option_map (sockets f) (kinds_in f second)) (one_in family_names first)

-- [family] [type]
abbrev pub network_of : List (List ℕ) → Option Sockets
network_of [] = Some (sockets all_families all_kinds)
network_of (name ∷ []) = one_name name
network_of (first ∷ second ∷ []) = two_names first second
network_of (first ∷ second ∷ third ∷ more) = None

-- any name
pub record IsName (ws : List WordData) (text : List ℕ) (rest : List WordData) : Type 0 where
  pub name : WordData
  pub stands : Starts Name ws name rest
  pub text_is : text ≡ name.text

-- [family] [type]: which sockets they name
pub record IsSockets (ws : List WordData) (named : Sockets) (rest : List WordData) : Type 0 where
  pub names : List (List ℕ)
  pub names_stand : Many IsName NamesEnd ws names rest
  pub meant : network_of names ≡ Some named

-- what stands behind the keyword
pub record IsNets (qualifiers : Qualifiers) (ws : List WordData) (rule : NetRule) (rest : List WordData) : Type 0 where
  pub named : Sockets
  pub sockets_stand : IsSockets ws named rest
  pub rule_is : rule ≡ record { audit = qualifiers.audit; deny = qualifiers.deny; families = named.families; kinds = named.kinds }

-- net = "network" [family] [type]
abbrev pub IsNet : Qualifiers → List WordData → NetRule → List WordData → Type 0
IsNet qualifiers ws rule rest = (names : List WordData) × Keyword (codes "network") ws names × IsNets qualifiers names rule rest
