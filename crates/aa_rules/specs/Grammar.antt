-- The grammar: one relation for each production, `IsX words x rest`, where the words begin with an x and the rest follows.
-- Source: apparmor.d(5), "Qualifiers"; own.
use Rattle.std.specs.Prelude.{ℕ, ◌≡◌, List, [], codes, Bool, true, false, ◌&&◌, ◌||◌, ◌==◌, nat_lt}
use Rattle.std.specs.List.{take_while}
use Rattle.aa_words.specs.declared.word.WordKind.TheVariants.{Close, Comma, Skipped}
use Rattle.aa_words.specs.Splits.{WordData}
use Rattle.aa_rules.specs.declared.tree.Qualifiers.{Qualifiers}
use Rattle.aa_rules.specs.CapRules.{IsCap}
use Rattle.aa_rules.specs.ChangeRules.{IsChange}
use Rattle.aa_rules.specs.NetRules.{IsNet}
use Rattle.aa_rules.specs.Reading.{RuleData, OnFile, OnCap, OnNet, OnChange, Listed}
pub use Rattle.aa_rules.specs.Phrases.{Production, Ending, Many, Here, Starts, Lacks, is_path_kind, is_name_kind, StartsAs, LacksAll, begins_as, spot_of, place_of, Keyword, LacksKeyword, Optional}
pub use Rattle.aa_rules.specs.FileRules.{IsFile}

-- ["allow" | "deny"]: whether it is deny
abbrev pub IsPermission : List WordData → Bool → List WordData → Type 0
IsPermission ws true rest = Keyword (codes "deny") ws rest
IsPermission ws false rest = LacksKeyword (codes "deny") ws × ((allow : Bool) × Optional (codes "allow") ws allow rest)

-- qual = ["audit"] ["allow" | "deny"]
pub record IsQualified (ws : List WordData) (qualifiers : Qualifiers) (rest : List WordData) : Type 0 where
  pub after : List WordData
  pub audit_stands : Optional (codes "audit") ws qualifiers.audit after
  pub permission_stands : IsPermission after qualifiers.deny rest

-- the letters and underscores that stand first
abbrev pub is_keyword_byte : ℕ → Bool
is_keyword_byte b = (nat_lt 96 b && nat_lt b 123) || b == 95

-- the keyword that stands first
abbrev pub keyword_of : List ℕ → List ℕ
keyword_of text = take_while is_keyword_byte text

-- a rule that is passed over, of which the keyword is kept
pub record IsPassedOver (ws : List WordData) (keyword : List ℕ) (rest : List WordData) : Type 0 where
  pub skipped : WordData
  pub stands : Starts Skipped ws skipped rest
  pub keyword_is : keyword ≡ keyword_of skipped.text

-- file | cap | net | change | Skipped
abbrev pub Says : Qualifiers → List WordData → RuleData → List WordData → Type 0
Says qualifiers ws (OnFile file) rest = IsFile qualifiers ws file rest
Says qualifiers ws (OnCap rule) rest = IsCap qualifiers ws rule rest
Says qualifiers ws (OnNet rule) rest = IsNet qualifiers ws rule rest
Says qualifiers ws (OnChange change) rest = IsChange qualifiers ws change rest
Says qualifiers ws (Listed keyword) rest = IsPassedOver ws keyword rest

-- rule = [qual] (file | cap | net | change | Skipped) ","
pub record IsRule (ws : List WordData) (rule : RuleData) (rest : List WordData) : Type 0 where
  pub qualifiers : Qualifiers
  pub comma : WordData
  pub unqualified : List WordData
  pub after : List WordData
  pub qualified : IsQualified ws qualifiers unqualified
  pub says : Says qualifiers unqualified rule after
  pub comma_stands : Starts Comma after comma rest

-- a body ends behind its closing brace
abbrev pub Closes : Ending
Closes ws rest = (close : WordData) × Starts Close ws close rest

-- a policy ends where no word is left
abbrev pub IsEnd : Ending
IsEnd ws rest = (ws ≡ []) × (rest ≡ [])
