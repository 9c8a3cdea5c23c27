-- When rules say the same, however they are written.
-- Source: own.
use Rattle.std.specs.Prelude.{◌≡◌, ◌<◌, ℕ, List, [], ◌∷◌, Bool, false, Option, Some, None, Contains, slice_index_or}
use Rattle.aa_pattern.specs.declared.item.Item.{Item, Class, Choice', Row_of-Item, end_of-Item, more_of-Item}
use Rattle.aa_pattern.specs.declared.item.Item.{Row_of-Item-Choice-0-1, end_of-Item-Choice-0-1, more_of-Item-Choice-0-1}
use Rattle.aa_pattern.specs.declared.pattern.Pattern.{Pattern}
use Rattle.aa_model.specs.declared.rule.FileRule.{FileRule}
use Rattle.aa_model.specs.declared.rule.CapRule.{CapRule}
use Rattle.aa_model.specs.declared.rule.NetRule.{NetRule}
use Rattle.aa_model.specs.declared.rule.ChangeRule.{ChangeRule}

-- sets of the same bytes
abbrev pub SameBytes : List Bool → List Bool → Type 0
SameBytes set other = (b : ℕ) → b < 256 → slice_index_or set b false ≡ slice_index_or other b false

abbrev mutual
  -- they are equal, or classes of the same bytes, or choices with the same branches, wherever these lie in memory
  pub SameItem : Item → Item → Type 0
  SameItem (Class set) (Class other) = SameBytes set other
  SameItem (Choice' _ branches) (Choice' _ others) = SameBranches branches others
  SameItem item other = item ≡ other

  -- as many branches, each the same as the other in its place
  pub SameBranches : {n m : _} → Row_of-Item-Choice-0-1 n → Row_of-Item-Choice-0-1 m → Type 0
  SameBranches end_of-Item-Choice-0-1 end_of-Item-Choice-0-1 = Unit {0}
  SameBranches (more_of-Item-Choice-0-1 _ branch rest) (more_of-Item-Choice-0-1 _ other others) = SameBranch branch other × SameBranches rest others
  SameBranches _ _ = ⊥

  -- `SameItems`, of branches
  pub SameBranch : {n m : _} → Row_of-Item n → Row_of-Item m → Type 0
  SameBranch end_of-Item end_of-Item = Unit {0}
  SameBranch (more_of-Item item rest) (more_of-Item other others) = SameItem item other × SameBranch rest others
  SameBranch _ _ = ⊥

-- as many items, each the same as the other in its place
abbrev pub SameItems : List Item → List Item → Type 0
SameItems [] [] = Unit {0}
SameItems (item ∷ items) (other ∷ others) = SameItem item other × SameItems items others
SameItems _ _ = ⊥

-- patterns of the same items
abbrev pub SamePattern : Pattern → Pattern → Type 0
SamePattern p q = SameItems p.items.items q.items.items

-- one of the patterns is the same
abbrev pub HasPattern : List Pattern → Pattern → Type 0
HasPattern ps p = (q : Pattern) × Contains ps q × SamePattern p q

-- each pattern of the one is among the other's, and the other way round: as sets they are the same
pub record SamePatterns (ps qs : List Pattern) : Type 0 where
  pub there : (p : Pattern) → Contains ps p → HasPattern qs p
  pub back : (q : Pattern) → Contains qs q → HasPattern ps q

-- rules on files with the same flags, permissions and way to execute, of the same patterns
pub record SameFileRule (r s : FileRule) : Type 0 where
  pub audit : r.audit ≡ s.audit
  pub deny : r.deny ≡ s.deny
  pub owner : r.owner ≡ s.owner
  pub perms : r.perms.0 ≡ s.perms.0
  pub exec : r.exec ≡ s.exec
  pub patterns : SamePatterns r.patterns s.patterns

-- rules with the same flags on the same capabilities
pub record SameCapRule (r s : CapRule) : Type 0 where
  pub audit : r.audit ≡ s.audit
  pub deny : r.deny ≡ s.deny
  pub caps : r.caps.0 ≡ s.caps.0

-- rules with the same flags on sockets of the same families and types
pub record SameNetRule (r s : NetRule) : Type 0 where
  pub audit : r.audit ≡ s.audit
  pub deny : r.deny ≡ s.deny
  pub families : r.families ≡ s.families
  pub kinds : r.kinds ≡ s.kinds

-- neither pattern is there, or both are and are the same
abbrev pub SameAny : Option Pattern → Option Pattern → Type 0
SameAny None None = Unit {0}
SameAny (Some p) (Some q) = SamePattern p q
SameAny _ _ = ⊥

-- rules with the same flags on changes to the same names
pub record SameChangeRule (r s : ChangeRule) : Type 0 where
  pub audit : r.audit ≡ s.audit
  pub deny : r.deny ≡ s.deny
  pub pattern : SameAny r.pattern s.pattern
