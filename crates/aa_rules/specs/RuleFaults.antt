-- At which word of a rule reading can't go on, and why: a relation for each production, `XFails words kind rest`, where the words are read up to the rest, and a fault of this kind
-- is at its first word, or behind the text where it has none.
-- Source: apparmor.d(5), "Format"; own.
use Rattle.std.specs.Prelude.{ℕ, ◌≡◌, List, [], ◌∷◌, ◌++◌, codes, Option, Some, None, is_some, is_none, unwrap_or, Bool, true, false, not, ◌&&◌, ◌==◌, ◌^◌, drop, if◌then◌else◌, bit_and}
use Rattle.std.specs.Str.{bytes_eq}
use Rattle.aa_base.specs.declared.fault.Spot.{Spot}
use Rattle.aa_base.specs.declared.fault.PolicyFault.{PolicyFault}
use Rattle.aa_base.specs.declared.fault.PolicyKind.{PolicyKind}
use Rattle.aa_base.specs.declared.fault.PolicyKind.TheVariants.{Syntax, Unsupported, UnknownWord, BadMode}
use Rattle.aa_words.specs.declared.word.WordKind.{WordKind}
use Rattle.aa_words.specs.declared.word.WordKind.TheVariants.{Open, Comma, Equals, LeftParen, Path, Name}
use Rattle.aa_words.specs.Splits.{WordData, is_one_of}
use Rattle.aa_rules.specs.declared.modes.Mode.{Mode}
use Rattle.aa_rules.specs.declared.tree.Qualifiers.{Qualifiers}
use Rattle.aa_rules.specs.CapRules.{IsCapName}
use Rattle.aa_rules.specs.FileRules.{IsMode, IsEntry, IsTarget, takes_target}
use Rattle.aa_rules.specs.Grammar.{IsQualified, Says}
use Rattle.aa_rules.specs.Modes.{mode_fault}
use Rattle.aa_rules.specs.Names.{is_left_out, name_fault}
use Rattle.aa_rules.specs.NetRules.{IsName, one_name, network_of}
use Rattle.aa_rules.specs.Phrases.{Production, Many, Here, Starts, Lacks, StartsAs, LacksAll, is_path_kind, is_name_kind, begins_as, Keyword, LacksKeyword, Optional, place_of}
use Rattle.aa_rules.specs.Reading.{EntryData, RuleData, OnNet, OnChange}
use Rattle.aa_base.specs.Tables.{number_in, capability_names}

-- a refusal that says so: of that kind, at the first word of the rest, or behind the text
pub record IsFaultBy (Fails : Production PolicyKind) (ws : List WordData) (end : Spot) (e : PolicyFault) : Type 0 where
  pub rest : List WordData
  pub fails : Fails ws e.kind rest
  pub at_is : e.at ≡ place_of rest end

-- ---- capabilities

-- the first name that is no capability's
pub record CapFails (ws : List WordData) (kind : PolicyKind) (rest : List WordData) : Type 0 where
  pub numbers : List ℕ
  pub name : WordData
  pub after : List WordData
  pub before : Many IsCapName Here ws numbers rest
  pub stands : Starts Name rest name after
  pub unknown : number_in capability_names name.text ≡ None
  pub kind_is : kind ≡ UnknownWord

-- ---- sockets

-- the words with which a condition begins
abbrev pub condition_words : List (List ℕ)
condition_words = codes "icmp" ∷ codes "ip" ∷ codes "port" ∷ codes "peer" ∷ []

-- a name that can't stand where it stands: one of a condition, which is left out; else a family or type out of its place; else one that no table has
unfoldable pub socket_name_fault : List ℕ → PolicyKind
socket_name_fault name = if is_one_of condition_words name then Unsupported else (if is_some (one_name name) then Syntax else UnknownWord)

-- the first name with which the names stand for nothing
pub record NetFails (ws : List WordData) (kind : PolicyKind) (rest : List WordData) : Type 0 where
  pub names : List (List ℕ)
  pub name : WordData
  pub after : List WordData
  pub before : Many IsName Here ws names rest
  pub stands : Starts Name rest name after
  pub meant : is_some (network_of names) ≡ true
  pub meaningless : network_of (names ++ name.text ∷ []) ≡ None
  pub kind_is : kind ≡ socket_name_fault name.text

-- ---- names of profiles

-- what stands where a profile's name has to: a word of those kinds that is no such name, else another word, or none
abbrev pub naming_fault : (WordKind → Bool) → List WordData → PolicyKind
naming_fault fits [] = Syntax
naming_fault fits (w ∷ ws) = if fits w.kind then name_fault w.text else Syntax

-- behind an arrow no profile's name stands
abbrev pub AimFails : Production PolicyKind
AimFails ws kind rest = (rest ≡ drop 1 ws) × (kind ≡ naming_fault is_name_kind rest)

-- ---- files

-- where a mode has to stand: what is wrong with the name there, else another word, or none
pub data ModeFails (deny : Bool) (ws : List WordData) (kind : PolicyKind) : Type 0 where
  WrongMode : (w : WordData) → (after : List WordData) → Starts Name ws w after → mode_fault deny w.text ≡ Some kind → ModeFails deny ws kind
  NoMode : Lacks Name ws → kind ≡ Syntax → ModeFails deny ws kind

-- where a path and a mode have to stand: behind a path no mode; neither a path nor a mode; behind a mode no path
pub data PairFails (deny : Bool) (ws : List WordData) (kind : PolicyKind) (rest : List WordData) : Type 0 where
  BehindPath : (path : WordData) → StartsAs is_path_kind ws path rest → ModeFails deny rest kind → PairFails deny ws kind rest
  Neither : LacksAll is_path_kind ws → rest ≡ ws → ModeFails deny ws kind → PairFails deny ws kind rest
  BehindMode : (mode : Mode) → IsMode deny ws mode rest → LacksAll is_path_kind rest → kind ≡ Syntax → PairFails deny ws kind rest

-- a name with which no rule and no item begins: one that is left out; else one that no production has, where no path follows; else what is wrong with it as a mode
unfoldable pub first_name_fault : Bool → Bool → List ℕ → PolicyKind
first_name_fault deny path_follows name =
    if is_left_out name then Unsupported
    else (if path_follows then unwrap_or (mode_fault deny name) Syntax else UnknownWord)

-- the same in a rule: `change_profile` is out of its place behind `owner`
unfoldable pub rule_name_fault : Bool → Bool → Bool → List ℕ → PolicyKind
rule_name_fault owner deny path_follows name =
    if owner && bytes_eq name (codes "change_profile") then Syntax else first_name_fault deny path_follows name

-- an opening brace
abbrev pub is_open : WordKind → Bool
is_open Open = true
is_open _ = false

-- a word with which no rule begins and that is no name: a brace straight behind qualifiers is left out
abbrev pub sign_fault : Bool → List WordData → PolicyKind
sign_fault straight ws = if straight && begins_as is_open ws then Unsupported else Syntax

-- where a path, `file` or a mode has to stand: behind a path no mode; behind `file` no path and mode; another name; another word, or none. Whether qualifiers and `owner` stand before it
pub data EntryFails (qualified owner deny : Bool) (ws : List WordData) (kind : PolicyKind) (rest : List WordData) : Type 0 where
  Unmoded : (path : WordData) → StartsAs is_path_kind ws path rest → ModeFails deny rest kind → EntryFails qualified owner deny ws kind rest
  BehindFile : (bare : List WordData) → Keyword (codes "file") ws bare → PairFails deny bare kind rest → EntryFails qualified owner deny ws kind rest
  AtName : (w : WordData) → (after : List WordData) → Starts Name ws w after → LacksKeyword (codes "file") ws → rest ≡ ws
      → kind ≡ rule_name_fault owner deny (begins_as is_path_kind after) w.text → EntryFails qualified owner deny ws kind rest
  AtSign : Lacks Name ws → LacksAll is_path_kind ws → rest ≡ ws → kind ≡ sign_fault (qualified && not owner) ws → EntryFails qualified owner deny ws kind rest

-- the mode grants EXEC, which is bit 6
abbrev pub grants_exec : Mode → Bool
grants_exec mode = bit_and mode.perms.0 (2 ^ 6) == 2 ^ 6

-- an arrow stands behind a mode that executes nothing; or that goes on under no profile of the policy; or no profile's name stands behind it
pub data TargetFails (mode : Mode) (ws : List WordData) (kind : PolicyKind) (rest : List WordData) : Type 0 where
  NoExec : grants_exec mode ≡ false → rest ≡ ws → kind ≡ Unsupported → TargetFails mode ws kind rest
  NoProfile : grants_exec mode ≡ true → takes_target mode.exec ≡ false → rest ≡ ws → kind ≡ BadMode → TargetFails mode ws kind rest
  NoName : grants_exec mode ≡ true → takes_target mode.exec ≡ true → AimFails ws kind rest → TargetFails mode ws kind rest

-- behind `owner`, which may be left out, no path and mode; or behind these no target that fits
pub data FileFails (qualified deny : Bool) (ws : List WordData) (kind : PolicyKind) (rest : List WordData) : Type 0 where
  NoEntry : (owner : Bool) → (bare : List WordData) → Optional (codes "owner") ws owner bare → ((e : EntryData) (r : List WordData) → IsEntry deny bare e r → ⊥)
      → EntryFails qualified owner deny bare kind rest → FileFails qualified deny ws kind rest
  NoTarget : (owner : Bool) → (bare : List WordData) → (entry : EntryData) → (after : List WordData) → Optional (codes "owner") ws owner bare → IsEntry deny bare entry after
      → ((t : Option (List ℕ)) (r : List WordData) → IsTarget entry.mode.exec after t r → ⊥) → TargetFails entry.mode after kind rest → FileFails qualified deny ws kind rest

-- ---- rules

-- behind the keyword of a rule its own fault; without a keyword that of a file rule
pub data SayingFails (qualified deny : Bool) (ws : List WordData) (kind : PolicyKind) (rest : List WordData) : Type 0 where
  InCap : (names : List WordData) → Keyword (codes "capability") ws names → CapFails names kind rest → SayingFails qualified deny ws kind rest
  InNet : (names : List WordData) → Keyword (codes "network") ws names → NetFails names kind rest → SayingFails qualified deny ws kind rest
  InChange : (behind : List WordData) → Keyword (codes "change_profile") ws behind → AimFails behind kind rest → SayingFails qualified deny ws kind rest
  InFile : LacksKeyword (codes "capability") ws → LacksKeyword (codes "network") ws → LacksKeyword (codes "change_profile") ws → FileFails qualified deny ws kind rest
      → SayingFails qualified deny ws kind rest

-- a sign with which a condition goes on
abbrev pub is_condition_sign : WordKind → Bool
is_condition_sign LeftParen = true
is_condition_sign Equals = true
is_condition_sign _ = false

-- `safe`, `unsafe` or a program
abbrev pub is_run : WordKind → Bool
is_run Name = true
is_run Path = true
is_run _ = false

-- a word behind a rule that is no comma: conditions of a rule on sockets are left out, and so is what stands straight behind `change_profile`
abbrev pub no_comma_fault : RuleData → List WordData → PolicyKind
no_comma_fault (OnNet rule) ws = if begins_as is_condition_sign ws then Unsupported else Syntax
no_comma_fault (OnChange change) ws = if is_none change.name && begins_as is_run ws then Unsupported else Syntax
no_comma_fault _ ws = Syntax

-- whether words are taken before the rest
abbrev pub Takes : List WordData → List WordData → Bool → Type 0
Takes ws rest true = rest ≡ ws → ⊥
Takes ws rest false = rest ≡ ws

-- behind the qualifiers no rule is said, or behind the rule no comma stands
pub data RuleFails (ws : List WordData) (kind : PolicyKind) (rest : List WordData) : Type 0 where
  Unsaid : (qualified : Bool) → (qualifiers : Qualifiers) → (bare : List WordData) → IsQualified ws qualifiers bare → Takes ws bare qualified
      → ((rule : RuleData) (r : List WordData) → Says qualifiers bare rule r → ⊥) → SayingFails qualified qualifiers.deny bare kind rest → RuleFails ws kind rest
  NoComma : (qualifiers : Qualifiers) → (bare : List WordData) → (rule : RuleData) → IsQualified ws qualifiers bare → Says qualifiers bare rule rest → Lacks Comma rest
      → kind ≡ no_comma_fault rule rest → RuleFails ws kind rest

-- ---- items of the top level

-- a name
abbrev pub is_name : WordKind → Bool
is_name Name = true
is_name _ = false

-- a word with which no item of the top level begins
abbrev pub item_fault : List WordData → PolicyKind
item_fault [] = Syntax
item_fault (w ∷ ws) = if is_name w.kind then first_name_fault false (begins_as is_path_kind ws) w.text else Syntax
