-- Which labels a text names, and what they are called.
-- Source: own.
use Rattle.std.specs.Prelude.{◌≡◌, ℕ, ◌&&◌, List, [], ◌∷◌, flat_map, codes, Bool, true, false, if◌then◌else◌, Contains}
use Rattle.std.specs.List.{All}
use Rattle.std.specs.Str.{bytes_eq}
use Rattle.aa_base.specs.Values.{value}
use Rattle.aa_model.specs.declared.policy.Policy.{Policy}
use Rattle.aa_model.specs.declared.label.Label.{Label}
use Rattle.aa_model.specs.declared.label.Label.TheVariants.{Unconfined}
use Rattle.aa_compile.specs.FileRules.{is_nil}
use Rattle.aa_compile.specs.Labels.{label_name}
use Rattle.aa_ask.specs.Asked.{no_profile}
use Rattle.aa_ask.specs.Naming.{profiles_named}
use Rattle.aa_ask.specs.Told.{is_confined}
use Rattle.aa_skipped.specs.declared.skipped.Skipped.{Skipped}
use Rattle.aa_reach.specs.declared.fault.NameFault.{NameFault}
use Rattle.aa_reach.specs.declared.fault.NameFault.TheVariants.{NoMemory, Refused}
use Rattle.aa_reach.specs.declared.naming.Named.{Named}
use Rattle.aa_reach.specs.Heads.{one_may_hold}

-- the labels that a text names: unconfined by that word alone, else the profiles that it names
abbrev pub labels_named : List Policy → List ℕ → List Label
labels_named policies text = if bytes_eq text (codes "unconfined") then Unconfined 0 ∷ [] else profiles_named policies text

-- a text that names no label of these policies, but maybe one of a skipped file
abbrev pub is_left_open : List Policy → List Skipped → List ℕ → Bool
is_left_open policies skipped text = is_nil (labels_named policies text) && one_may_hold text skipped

-- it, if it is such
abbrev pub open_named : List Policy → List Skipped → List ℕ → List (List ℕ)
open_named policies skipped text = if is_left_open policies skipped text then text ∷ [] else []

-- a text that names no label, nor maybe one of a skipped file
pub record NamesNone (policies : List Policy) (skipped : List Skipped) (text : List ℕ) : Type 0 where
  pub read : labels_named policies text ≡ []
  pub held : one_may_hold text skipped ≡ false

-- what a text names that names something: labels, or else it is left open
pub record IsNamed (policies : List Policy) (skipped : List Skipped) (text : List ℕ) (labels : List Label) (opens : List (List ℕ)) : Type 0 where
  pub named : labels ≡ labels_named policies text
  pub left : opens ≡ open_named policies skipped text
  pub some : NamesNone policies skipped text → ⊥

-- the labels that texts name, and the texts that are left open: each is one of both kinds
pub record AreNamed (policies : List Policy) (skipped : List Skipped) (texts : List (List ℕ)) (labels : List Label) (opens : List (List ℕ)) : Type 0 where
  pub all : labels ≡ flat_map (labels_named policies) texts
  pub left : opens ≡ flat_map (open_named policies skipped) texts
  pub some : All (λ text. NamesNone policies skipped text → ⊥) texts

-- a refusal says that a text names no label, unless memory ran out
abbrev pub SaysNone : List Policy → List Skipped → List ℕ → NameFault → Type 0
SaysNone policies skipped text NoMemory = Unit {0}
SaysNone policies skipped text (Refused line) = NamesNone policies skipped text × (line.items ≡ no_profile text)

-- so of one of the texts
abbrev pub SaysOne : List Policy → List Skipped → List (List ℕ) → NameFault → Type 0
SaysOne policies skipped texts NoMemory = Unit {0}
SaysOne policies skipped texts (Refused line) = (text : List ℕ) × Contains texts text × SaysNone policies skipped text (Refused line)

-- a label, whether it is a profile's, and its full name, or unconfined
pub record Name : Type 0 where
  pub label : Label
  pub confined : Bool
  pub text : List ℕ

-- a name, without where it lies in memory
abbrev pub name_in : Named → Name
name_in n = record { label = n.label; confined = n.is_confined; text = n.name.items }

-- the name of a label
abbrev pub name_of : List Policy → Label → Name
name_of policies l = record { label = l; confined = is_confined l; text = label_name policies l }

-- the name of what a text that is left open may name: that of a profile, which no label of these policies has
abbrev pub name_left_open : List ℕ → Name
name_left_open text = record { label = Unconfined 0; confined = true; text = text }

-- how a label is called: by its full name as audit lines have it, or unconfined
abbrev pub called : Name → List ℕ
called n = if n.confined then value n.text else n.text
