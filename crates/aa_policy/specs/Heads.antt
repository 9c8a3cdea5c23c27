-- The head of a profile (apparmor.d(5), "Profile Head"): how it is named, where it attaches, its flags.
-- Source: apparmor.d(5), "Profile Head".
use Rattle.std.specs.Prelude.{ℕ, ◌≡◌, ◌⊎◌, ◌&&◌, ◌||◌, List, [], ◌∷◌, codes, Option, Some, None, option_map, Bool, true, false, if◌then◌else◌}
use Rattle.std.specs.List.{list_any}
use Rattle.std.specs.Str.{bytes_eq}
use Rattle.aa_base.specs.declared.fault.Spot.{Spot}
use Rattle.aa_words.specs.declared.word.WordKind.{WordKind}
use Rattle.aa_words.specs.declared.word.WordKind.TheVariants.{Open, Comma, Equals, LeftParen, RightParen, Name}
use Rattle.aa_words.specs.Splits.{WordData, is_one_of}
use Rattle.aa_policy.specs.declared.heads.AttachmentTree.{AttachmentTree}
use Rattle.aa_policy.specs.declared.heads.HeadFlags.{HeadFlags}
use Rattle.aa_policy.specs.declared.heads.HeadTree.{HeadTree}
use Rattle.aa_policy.specs.declared.heads.TitleTree.{TitleTree}
use Rattle.aa_rules.specs.Grammar.{Ending, Production, Many, Starts, StartsAs, LacksAll, Keyword, spot_of, is_path_kind, is_name_kind}
use Rattle.aa_rules.specs.Names.{begins_with, is_right_name, is_plain_name}

-- ---- what is written

-- the path that a profile attaches to, and where it stands
pub record AttachmentData : Type 0 where
  pub at : Spot
  pub path : List ℕ

-- where a profile's name stands, the name, and what it attaches to, if it attaches
pub record TitleData : Type 0 where
  pub at : Spot
  pub name : List ℕ
  pub attachment : Option AttachmentData

-- the head of a profile
pub record HeadData : Type 0 where
  pub title : TitleData
  pub flags : HeadFlags

-- a head without where its text lies in memory
abbrev pub attachment_data : AttachmentTree → AttachmentData
attachment_data t = record { at = t.at; path = t.path.now }

-- a profile's name and attachment, without where they lie in memory
abbrev pub title_data : TitleTree → TitleData
title_data t = record { at = t.at; name = t.name.now; attachment = option_map attachment_data t.attachment }

-- a profile's head, without where it lies in memory
abbrev pub head_data : HeadTree → HeadData
head_data t = record { title = title_data t.title; flags = t.flags }

-- ---- words

-- a word of this kind stands there
abbrev pub Stands : WordKind → Ending
Stands kind ws rest = (w : WordData) × Starts kind ws w rest

-- the words begin with one whose kind and text fit, and the rest follows
pub record Fits (fits : WordKind → List ℕ → Bool) (ws : List WordData) (w : WordData) (rest : List WordData) : Type 0 where
  pub words : ws ≡ w ∷ rest
  pub it_fits : fits w.kind w.text ≡ true

-- no such word stands there
abbrev pub LacksFitting : (WordKind → List ℕ → Bool) → List WordData → Type 0
LacksFitting fits ws = (w : WordData) (rest : List WordData) → Fits fits ws w rest → ⊥

-- [path]
abbrev pub OptionalPath : List WordData → Option WordData → List WordData → Type 0
OptionalPath ws (Some path) rest = StartsAs is_path_kind ws path rest
OptionalPath ws None rest = (rest ≡ ws) × LacksAll is_path_kind ws

-- ---- name and attachment

-- a word as an attachment
abbrev pub attached : WordData → AttachmentData
attached w = record { at = spot_of w; path = w.text }

-- the path that is written, else the name, if it is a path
abbrev pub attachment_of : WordData → Option WordData → Option AttachmentData
attachment_of name (Some path) = Some (attached path)
attachment_of name None = if begins_with 47 name.text then Some (attached name) else None

-- name [attach]
pub record IsNamed (top : Bool) (ws : List WordData) (title : TitleData) (rest : List WordData) : Type 0 where
  pub name : WordData
  pub path : Option WordData
  pub after : List WordData
  pub name_stands : StartsAs is_name_kind ws name after
  pub is_right : is_plain_name top name.text ≡ true
  pub path_stands : OptionalPath after path rest
  pub at_is : title.at ≡ spot_of name
  pub name_is : title.name ≡ name.text
  pub attachment_is : title.attachment ≡ attachment_of name path

-- path: it is name and attachment
pub record IsPathNamed (top : Bool) (ws : List WordData) (title : TitleData) (rest : List WordData) : Type 0 where
  pub path : WordData
  pub path_stands : StartsAs is_path_kind ws path rest
  pub is_right : is_right_name top path.text ≡ true
  pub at_is : title.at ≡ spot_of path
  pub name_is : title.name ≡ path.text
  pub attachment_is : title.attachment ≡ Some (attached path)

-- title = "profile" name [attach] | path
abbrev pub IsTitle : Bool → Production TitleData
IsTitle top ws title rest = ((bare : List WordData) × Keyword (codes "profile") ws bare × IsNamed top bare title rest) ⊎ IsPathNamed top ws title rest

-- ---- flags

-- the flags that have no effect
abbrev pub idle_flags : List (List ℕ)
idle_flags = codes "attach_disconnected" ∷ codes "mediate_deleted" ∷ []

-- the flags that are read
abbrev pub known_flags : List (List ℕ)
known_flags = codes "complain" ∷ codes "enforce" ∷ codes "audit" ∷ idle_flags

-- what may stand between the parentheses: a flag, or a comma
abbrev pub is_flag : WordKind → List ℕ → Bool
is_flag Comma text = true
is_flag Name text = is_one_of known_flags text
is_flag _ text = false

-- a word is this flag
abbrev pub is_the_flag : List ℕ → WordKind → List ℕ → Bool
is_the_flag flag Name text = bytes_eq text flag
is_the_flag flag _ text = false

-- the flag stands among the words
abbrev pub has_flag : List ℕ → List WordData → Bool
has_flag flag ws = list_any (λ w. is_the_flag flag w.kind w.text) ws

-- what the flags say that have an effect
abbrev pub said_by : List WordData → HeadFlags
said_by ws = record { complain = has_flag (codes "complain") ws; enforce = has_flag (codes "enforce") ws; audit = has_flag (codes "audit") ws }

-- the same with one word more
abbrev pub flags_with : HeadFlags → WordData → HeadFlags
flags_with flags w = record {
  complain = flags.complain || is_the_flag (codes "complain") w.kind w.text;
  enforce = flags.enforce || is_the_flag (codes "enforce") w.kind w.text;
  audit = flags.audit || is_the_flag (codes "audit") w.kind w.text;
}

-- ["flags" "="] "("
pub record NamesFlags (ws rest : List WordData) : Type 0 where
  pub after_keyword : List WordData
  pub after_equals : List WordData
  pub keyword_stands : Keyword (codes "flags") ws after_keyword
  pub equals_stands : Stands Equals after_keyword after_equals
  pub paren_stands : Stands LeftParen after_equals rest

-- a profile's flags open here, with their keyword or without
abbrev pub OpensFlags : Ending
OpensFlags ws rest = Stands LeftParen ws rest ⊎ NamesFlags ws rest

-- flag* ")"
abbrev pub AreFlags : List WordData → List WordData → List WordData → Type 0
AreFlags = Many (Fits is_flag) (Stands RightParen)

-- flag* ")": no profile is to complain and to enforce
pub record IsFlagList (ws : List WordData) (flags : HeadFlags) (rest : List WordData) : Type 0 where
  pub between : List WordData
  pub written : AreFlags ws between rest
  pub flags_are : flags ≡ said_by between
  pub agree : (flags.complain && flags.enforce) ≡ false

-- flags = ["flags" "="] "(" flag* ")"
pub record IsFlags (ws : List WordData) (flags : HeadFlags) (rest : List WordData) : Type 0 where
  pub inside : List WordData
  pub opens : OpensFlags ws inside
  pub listed : IsFlagList inside flags rest

-- [flags]: none say that none stands there
abbrev pub OptionalFlags : List WordData → HeadFlags → List WordData → Type 0
OptionalFlags ws flags rest = IsFlags ws flags rest ⊎ ((rest ≡ ws) × (flags ≡ said_by []))

-- ---- the head

-- [flags] "{"
pub record IsOpening (ws : List WordData) (flags : HeadFlags) (rest : List WordData) : Type 0 where
  pub after : List WordData
  pub flags_stand : OptionalFlags ws flags after
  pub brace_stands : Stands Open after rest

-- head = title [flags] "{"
pub record IsHead (top : Bool) (ws : List WordData) (head : HeadData) (rest : List WordData) : Type 0 where
  pub after : List WordData
  pub title : IsTitle top ws head.title after
  pub opening : IsOpening after head.flags rest

-- ---- where a profile begins

-- what goes on behind a path that names a profile: an opening brace, flags, or what isn't read there
abbrev pub goes_on : WordKind → List ℕ → Bool
goes_on Open text = true
goes_on LeftParen text = true
goes_on Name text = is_one_of (codes "flags" ∷ codes "xattrs" ∷ []) text
goes_on _ text = false

-- a path that names a profile
pub record BeginsPathNamed (ws : List WordData) : Type 0 where
  pub path : WordData
  pub next : WordData
  pub after : List WordData
  pub rest : List WordData
  pub path_stands : StartsAs is_path_kind ws path after
  pub next_stands : Fits goes_on after next rest

-- a profile begins: by its keyword, or by such a path
abbrev pub BeginsProfile : List WordData → Type 0
BeginsProfile ws = ((rest : List WordData) × Keyword (codes "profile") ws rest) ⊎ BeginsPathNamed ws
