-- Profiles that are the same but for where they stand and where their patterns lie in memory.
-- Source: own.
use Rattle.std.specs.Prelude.{◌≡◌, ◌↔◌, ◌<◌, ℕ, List, Bool, false, Option, Some, None, Vec, slice_index_or}
use Rattle.std.specs.List.{AllZip}
use Rattle.aa_pattern.specs.declared.pattern.Pattern.{Pattern}
use Rattle.std.specs.Global.{Global}
use Rattle.aa_pattern.specs.declared.item.Item.{Item}
use Rattle.aa_pattern.specs.Globs.{Allows, is_byte}
use Rattle.aa_model.specs.declared.rule.ChangeRule.{ChangeRule}
use Rattle.aa_model.specs.declared.rule.FileRule.{FileRule}
use Rattle.aa_model.specs.declared.policy.Profile.{Profile}
use Rattle.aa_model.specs.declared.policy.Policy.{Policy}
use Rattle.aa_model.specs.declared.label.Label.{Label}
use Rattle.aa_model.specs.declared.label.Label.TheVariants.{Unconfined, Confined}
use Rattle.aa_model.specs.declared.request.Request.{Request}
use Rattle.aa_compile.specs.Labels.{profile_in}
use Rattle.aa_differences.specs.Same.{AnsweredAlike}

-- items that allow the same texts, both one byte or neither
pub record SameItem (a b : Item) : Type 0 where
  pub allow : (s : List ℕ) → Allows a s ↔ Allows b s
  pub byte : is_byte a ≡ is_byte b

-- sets of the same bytes
abbrev pub SameSet : List Bool → List Bool → Type 0
SameSet set other = (n : ℕ) → n < 256 → slice_index_or set n false ≡ slice_index_or other n false

-- as many items, each the same as the other in its place
abbrev pub SameList : Vec Item Global → Vec Item Global → Type 0
SameList one other = AllZip SameItem one.items other.items

-- patterns of such items
abbrev pub SamePattern : Pattern → Pattern → Type 0
SamePattern p q = AllZip SameItem p.items.items q.items.items

-- as many patterns, each the same as the other in its place
abbrev pub SamePatterns : List Pattern → List Pattern → Type 0
SamePatterns patterns others = AllZip SamePattern patterns others

-- file rules that say the same of the same paths
pub record SameRule (r s : FileRule) : Type 0 where
  pub audit : r.audit ≡ s.audit
  pub deny : r.deny ≡ s.deny
  pub owner : r.owner ≡ s.owner
  pub perms : r.perms ≡ s.perms
  pub exec : r.exec ≡ s.exec
  pub patterns : SamePatterns r.patterns s.patterns

-- neither is there, or both are, alike
abbrev pub IsAlike : {X : Type 0} → (X → X → Type 0) → Option X → Option X → Type 0
IsAlike R None None = Unit {0}
IsAlike R (Some x) (Some y) = R x y
IsAlike R _ _ = ⊥

-- rules on changes of profile that say the same of the same names
pub record SameChange (r s : ChangeRule) : Type 0 where
  pub audit : r.audit ≡ s.audit
  pub deny : r.deny ≡ s.deny
  pub pattern : IsAlike SamePattern r.pattern s.pattern

-- the same value
abbrev pub SameValue : {X : Type 0} → X → X → Type 0
SameValue x y = x ≡ y

-- profiles in which others see no difference: of one name, one parent and the same attachments
pub record SameHead (p q : Profile) : Type 0 where
  pub name : p.name ≡ q.name
  pub parent : p.parent ≡ q.parent
  pub attachments : SamePatterns p.attachments q.attachments

-- profiles with the same flags and the same rules, one after another
pub record SameBody (p q : Profile) : Type 0 where
  pub complain : p.complain ≡ q.complain
  pub audit : p.audit ≡ q.audit
  pub files : AllZip SameRule p.files q.files
  pub caps : AllZip SameValue p.caps q.caps
  pub nets : AllZip SameValue p.nets q.nets
  pub changes : AllZip SameChange p.changes q.changes

-- as many profiles, each with the same head as the other in its place
abbrev pub SameTops : Policy → Policy → Type 0
SameTops p q = AllZip SameHead p.profiles q.profiles

-- so in as many policies
abbrev pub SameHeads : List Policy → List Policy → Type 0
SameHeads ps qs = AllZip SameTops ps qs

-- both labels are one, and its profiles have the same body
abbrev pub SameBodyAt : List Policy → List Policy → Label → Label → Type 0
SameBodyAt ps qs (Unconfined k) (Unconfined j) = k ≡ j
SameBodyAt ps qs (Confined k n) (Confined j m) = (k ≡ j) × (n ≡ m) × IsAlike SameBody (profile_in ps k n) (profile_in qs k n)
SameBodyAt ps qs _ _ = ⊥

-- where all heads are the same, a label whose body is the same is answered alike, whatever else differs
abbrev pub SameBodiesReplyAlike : Type 0
SameBodiesReplyAlike = (ps qs : List Policy) → SameHeads ps qs → (l m : Label) → SameBodyAt ps qs l m → (r : Request) → AnsweredAlike ps qs l m r
