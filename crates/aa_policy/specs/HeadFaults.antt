-- At which word of a profile's head, of an abi rule or of a preamble reading can't go on, and why: a relation for each production, as for rules.
-- Source: apparmor.d(5), "Profile Head", "Variables"; own.
use Rattle.std.specs.Prelude.{ℕ, ◌≡◌, ◌&&◌, List, [], ◌∷◌, ◌++◌, codes, Bool, true, false, if◌then◌else◌}
use Rattle.aa_base.specs.declared.fault.PolicyKind.{PolicyKind}
use Rattle.aa_base.specs.declared.fault.PolicyKind.TheVariants.{Syntax, Unsupported, UnknownWord}
use Rattle.aa_words.specs.declared.word.WordKind.{WordKind}
use Rattle.aa_words.specs.declared.word.WordKind.TheVariants.{Open, Comma, Equals, LeftParen, RightParen, Name}
use Rattle.aa_words.specs.Splits.{WordData, is_one_of}
use Rattle.aa_rules.specs.Grammar.{Production, Many, Here, Lacks, is_path_kind, is_name_kind, Keyword, LacksKeyword}
use Rattle.aa_rules.specs.RuleFaults.{naming_fault, is_name}
use Rattle.aa_policy.specs.declared.heads.HeadFlags.{HeadFlags}
use Rattle.aa_policy.specs.Heads.{TitleData, Stands, Fits, LacksFitting, IsTitle, is_flag, said_by, OpensFlags, IsFlags}
use Rattle.aa_policy.specs.Preamble.{NamesAbi, LacksAbiName}

-- ---- names

-- behind the keyword no profile's name stands, or without it no path that can name one
pub data TitleFails (ws : List WordData) (kind : PolicyKind) (rest : List WordData) : Type 0 where
  Misnamed : Keyword (codes "profile") ws rest → kind ≡ naming_fault is_name_kind rest → TitleFails ws kind rest
  NoPath : LacksKeyword (codes "profile") ws → rest ≡ ws → kind ≡ naming_fault is_path_kind ws → TitleFails ws kind rest

-- ---- flags

-- flags that are left out
abbrev pub left_out_flags : List (List ℕ)
left_out_flags = codes "kill" ∷ codes "unconfined" ∷ codes "prompt" ∷ codes "default_allow" ∷ codes "xattrs" ∷ []

-- a name that isn't read as a flag
abbrev pub flag_name_fault : List ℕ → PolicyKind
flag_name_fault name = if is_one_of left_out_flags name then Unsupported else UnknownWord

-- a word among the flags that is none: a name; behind a flag its sign, which is left out; another
abbrev pub flag_word_fault : Bool → WordKind → List ℕ → PolicyKind
flag_word_fault behind_flag Name text = flag_name_fault text
flag_word_fault true Equals text = Unsupported
flag_word_fault behind_flag kind text = Syntax

-- the same of the word that stands first, if one is left
abbrev pub flag_fault : Bool → List WordData → PolicyKind
flag_fault behind_flag [] = Syntax
flag_fault behind_flag (w ∷ ws) = flag_word_fault behind_flag w.kind w.text

-- the last of the words is a flag, and no comma
abbrev pub ends_in_flag : List WordData → Bool
ends_in_flag [] = false
ends_in_flag (w ∷ []) = is_name w.kind
ends_in_flag (w ∷ v ∷ ws) = ends_in_flag (v ∷ ws)

-- a profile is to complain and to enforce
abbrev pub contradict : HeadFlags → Bool
contradict flags = flags.complain && flags.enforce

-- the first word with which the flags go wrong: neither a flag nor their end; or a flag that contradicts one before it
pub data FlagListFails (ws : List WordData) (kind : PolicyKind) (rest : List WordData) : Type 0 where
  NoFlag : (before : List WordData) → Many (Fits is_flag) Here ws before rest → contradict (said_by before) ≡ false → Lacks RightParen rest → LacksFitting is_flag rest
      → kind ≡ flag_fault (ends_in_flag before) rest → FlagListFails ws kind rest
  Contradicts : (before : List WordData) → (flag : WordData) → (after : List WordData) → Many (Fits is_flag) Here ws before rest → contradict (said_by before) ≡ false
      → Fits is_flag rest flag after → contradict (said_by (before ++ flag ∷ [])) ≡ true → kind ≡ Syntax → FlagListFails ws kind rest

-- where no parenthesis opens flags
pub data LacksFlags (ws rest : List WordData) : Type 0 where
  NoKeyword : Lacks LeftParen ws → LacksKeyword (codes "flags") ws → rest ≡ ws → LacksFlags ws rest
  NoEquals : Keyword (codes "flags") ws rest → Lacks Equals rest → LacksFlags ws rest
  NoParen : (after : List WordData) → Keyword (codes "flags") ws after → Stands Equals after rest → Lacks LeftParen rest → LacksFlags ws rest

-- a word behind a name at which no head goes on: extended attributes, which are left out, or another, or none
pub data HeadStops (ws : List WordData) (kind : PolicyKind) : Type 0 where
  Attributes : (after : List WordData) → Keyword (codes "xattrs") ws after → kind ≡ Unsupported → HeadStops ws kind
  Other : LacksKeyword (codes "xattrs") ws → kind ≡ Syntax → HeadStops ws kind

-- no flags open, or one of them is wrong
pub data FlagsFail (ws : List WordData) (kind : PolicyKind) (rest : List WordData) : Type 0 where
  Unopened : LacksFlags ws rest → HeadStops rest kind → FlagsFail ws kind rest
  InList : (inside : List WordData) → OpensFlags ws inside → FlagListFails inside kind rest → FlagsFail ws kind rest

-- behind a name neither a brace nor flags, or behind flags no brace
pub data OpeningFails (ws : List WordData) (kind : PolicyKind) (rest : List WordData) : Type 0 where
  InFlags : Lacks Open ws → FlagsFail ws kind rest → OpeningFails ws kind rest
  NoBrace : (flags : HeadFlags) → Lacks Open ws → IsFlags ws flags rest → Lacks Open rest → HeadStops rest kind → OpeningFails ws kind rest

-- ---- the head

-- no name, or behind it no opening of a body
pub data HeadFails (top : Bool) (ws : List WordData) (kind : PolicyKind) (rest : List WordData) : Type 0 where
  Untitled : ((title : TitleData) (r : List WordData) → IsTitle top ws title r → ⊥) → TitleFails ws kind rest → HeadFails top ws kind rest
  Unbraced : (title : TitleData) → (after : List WordData) → IsTitle top ws title after → OpeningFails after kind rest → HeadFails top ws kind rest

-- ---- abi rules

-- the first word that isn't as in an abi rule
pub data AbiStops (ws rest : List WordData) : Type 0 where
  NoAbi : LacksKeyword (codes "abi") ws → rest ≡ ws → AbiStops ws rest
  NoAbiName : Keyword (codes "abi") ws rest → LacksAbiName rest → AbiStops ws rest
  NoAbiComma : (word : WordData) → (named : List WordData) → Keyword (codes "abi") ws named → NamesAbi named word rest → Lacks Comma rest → AbiStops ws rest

-- and so they are refused
abbrev pub AbiFails : Production PolicyKind
AbiFails ws kind rest = AbiStops ws rest × (kind ≡ Syntax)
