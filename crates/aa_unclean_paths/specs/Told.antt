-- A pattern that tells unclean paths from others.
-- Source: own.
use Rattle.std.specs.Prelude.{◌≡◌, ℕ, List, [], ◌∷◌, true, ◌↔◌, map, codes, Vec}
use Rattle.std.specs.declared.alloc.Global.{Global}
use Rattle.aa_pattern.specs.declared.item.Item.{Item, Byte, Deep, Choice}
use Rattle.aa_pattern.specs.declared.pattern.Pattern.{Pattern}
use Rattle.aa_pattern.specs.Matching.{is_match}
use Rattle.aa_regions.specs.Regions.{IsAsked}
use Rattle.aa_unclean_paths.specs.Components.{IsUnclean}

-- of the paths that can be asked for it matches those that are unclean
abbrev pub TellsUnclean : Pattern → Type 0
TellsUnclean p = (s : List ℕ) → IsAsked s → (is_match p.items.items s ≡ true) ↔ IsUnclean s

-- the item is the choice of these
abbrev pub IsChoiceOf : List (List Item) → Item → Type 0
IsChoiceOf branches i = (v : Vec (Vec Item Global) Global) × (i ≡ Choice v) × (map (λ b. b.items) v.items ≡ branches)

-- a dot or two dots, or what else there is
abbrev pub and_dots : List Item → List (List Item)
and_dots items = items ∷ map Byte (codes ".") ∷ map Byte (codes "..") ∷ []

-- the pattern `**/{{,.,..}/**,.,..}`
pub record IsUncleanPattern (p : Pattern) : Type 0 where
  pub name : Item
  pub rest : Item
  pub names : IsChoiceOf (and_dots []) name
  pub ends : IsChoiceOf (and_dots (name ∷ Byte 47 ∷ Deep ∷ [])) rest
  pub items : p.items.items ≡ Deep ∷ Byte 47 ∷ rest ∷ []
