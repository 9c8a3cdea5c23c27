-- Rules on changes of profile: change = "change_profile" [-> name]
-- Source: apparmor.d(5), "change_profile rules".
use Rattle.std.specs.Prelude.{◌≡◌, List, codes, Option, Some, None, true}
use Rattle.aa_words.specs.declared.word.WordKind.TheVariants.{Arrow}
use Rattle.aa_words.specs.Splits.{WordData}
use Rattle.aa_rules.specs.declared.tree.Qualifiers.{Qualifiers}
use Rattle.aa_rules.specs.Names.{is_target_name}
use Rattle.aa_rules.specs.Phrases.{Starts, Lacks, StartsAs, is_name_kind, spot_of, Keyword}
use Rattle.aa_rules.specs.Reading.{NameData, ChangeData}

-- -> name
pub record IsAim (ws : List WordData) (name : NameData) (rest : List WordData) : Type 0 where
  pub arrow : WordData
  pub word : WordData
  pub after : List WordData
  pub arrow_stands : Starts Arrow ws arrow after
  pub stands : StartsAs is_name_kind after word rest
  pub is_name : is_target_name word.text ≡ true
  pub at_is : name.at ≡ spot_of word
  pub text_is : name.text ≡ word.text

-- [-> name]
abbrev pub IsAnyAim : List WordData → Option NameData → List WordData → Type 0
IsAnyAim ws None rest = (rest ≡ ws) × Lacks Arrow ws
IsAnyAim ws (Some name) rest = IsAim ws name rest

-- what stands behind the keyword
pub record IsChanges (qualifiers : Qualifiers) (ws : List WordData) (change : ChangeData) (rest : List WordData) : Type 0 where
  pub aim_stands : IsAnyAim ws change.name rest
  pub qualifiers_are : change.qualifiers ≡ qualifiers

-- change = "change_profile" [-> name]
abbrev pub IsChange : Qualifiers → List WordData → ChangeData → List WordData → Type 0
IsChange qualifiers ws change rest = (behind : List WordData) × Keyword (codes "change_profile") ws behind × IsChanges qualifiers behind change rest
