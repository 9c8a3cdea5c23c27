-- What several units include, taken together.
-- Source: own.
use Rattle.std.specs.Prelude.{ℕ, ◌≡◌, ◌⊎◌, ◌↔◌, ◌<◌, ◌≤◌, ◌^◌, ◌++◌, nat_lt, min, List, [], ◌∷◌, length, take}
use Rattle.std.specs.Prelude.{flat_map, Bool, true, false, not, if◌then◌else◌, Option, Some, None, IsSome, option_map, option_to_list, slice_get, find}
use Rattle.std.specs.Prelude.{Contains, codes, ⊤}
use Rattle.std.specs.Borrow.{Bor}
use Rattle.std.specs.Option.{option_or, option_and_then}
use Rattle.std.specs.List.Sorted.{IsStrictlySortedBy}
use Rattle.std.specs.Map.{lookup}
use Rattle.std.specs.Ordering.{nat_cmp, is_eq}
use Rattle.std.specs.Cmp.Lexicographic.{slice_cmp}
use Rattle.std.specs.Str.{bytes_eq}
use Rattle.aa_words.specs.Includes.{included_name}
use Rattle.aa_base.specs.declared.fault.Spot.{Spot}
use Rattle.aa_words.specs.Found.{IncludeData, HasIncludes}
use Rattle.aa_text.specs.declared.fault.FaultReport.{FaultReport}
use Rattle.aa_files.specs.declared.unit.Source.{Source}
use Rattle.aa_files.specs.declared.unit.Unit as unit
use Rattle.aa_files.specs.declared.unit.UnitFault.{UnitFault}
use Rattle.aa_files.specs.declared.unit.UnitFault.TheVariants.{NoMemory, At, Ambiguous}
use Rattle.aa_files.specs.Numbers.{path_in, text_in}
use Rattle.aa_files.specs.Nodes.{is_folder_in, node_in}
use Rattle.aa_files.specs.Walks.{known_of}
use Rattle.aa_files.specs.Links.{place_if, excerpt_if, AreLinks}
use Rattle.aa_job.specs.declared.shared.Meaning.{Meaning}

-- what a name stands for in a unit that includes it: a source, or nothing
pub record Meant : Type 0 where
  pub by : unit.Unit
  pub source : Option Source

-- the source of that number, if it is one
abbrev pub source_of : List Source → Option ℕ → Option Source
source_of sources index = option_and_then (λ i. slice_get sources i) index

-- what a unit means by a name
abbrev pub meant_by : unit.Unit → Option ℕ → Meant
meant_by u index = record { by = u; source = source_of u.sources.items index }

-- what a name stands for in a unit, if that includes it
abbrev pub meaning_in : unit.Unit → List ℕ → Option Meant
meaning_in u name = option_map (meant_by u) (known_of u.known.entries name)

-- what it stands for in the first of some units that includes it
abbrev pub first_meaning : List unit.Unit → List ℕ → Option Meant
first_meaning [] name = None
first_meaning (u ∷ us) name = option_or (meaning_in u name) (first_meaning us name)

-- one text, or nothing both times
abbrev pub is_same : Option Source → Option Source → Bool
is_same None None = true
is_same (Some a) (Some b) = bytes_eq a.text.items b.text.items
is_same None (Some b) = false
is_same (Some a) None = false

-- a name that a unit before includes stands for the same in this one
abbrev pub AgreesWith : List unit.Unit → unit.Unit → Type 0
AgreesWith before u = (name : List ℕ) (first m : Meant) → first_meaning before name ≡ Some first → meaning_in u name ≡ Some m → is_same first.source m.source ≡ true

-- each of the first so many units agrees with those before it
abbrev pub AgreeBelow : List unit.Unit → ℕ → Type 0
AgreeBelow units n = (k : ℕ) (u : unit.Unit) → k < n → slice_get units k ≡ Some u → AgreesWith (take k units) u

-- the source that is meant, if there is one
abbrev pub source_in : Option Meant → Option Source
source_in None = None
source_in (Some m) = m.source

-- the source that a name stands for in the units that include it, if there is one
abbrev pub source_named : List unit.Unit → List ℕ → Option Source
source_named units name = source_in (first_meaning units name)

-- The names that the units include, in byte order and each once, stand for the same in all of them; the sources are those that
-- they stand for.
pub record AreShared (units : List unit.Unit) (sources : List Source) : Type 0 where
  pub agree : AgreeBelow units (length units)
  pub names : List (List ℕ)
  pub in_order : IsStrictlySortedBy (slice_cmp nat_cmp) names
  pub each : (name : List ℕ) → IsSome (first_meaning units name) ↔ Contains names name
  pub sources_are : sources ≡ flat_map (λ name. option_to_list (source_named units name)) names

-- ---- where a unit includes a name

-- it is the first byte of the first include of that name in a text, if there is one
pub record IsFirstByte (text name : List ℕ) (at : Option ℕ) : Type 0 where
  pub includes : List IncludeData
  pub are : HasIncludes text includes
  pub is : at ≡ option_map (λ (i : IncludeData). i.byte) (find (λ (i : IncludeData). bytes_eq (included_name i.text) name) includes)

-- a byte as a place has it
abbrev pub spot_byte : ℕ → ℕ
spot_byte n = if nat_lt n (2 ^ 32) then n else 0

-- the number of a unit's last text, as a place has it
abbrev pub last_file : unit.Unit → ℕ
last_file u = min (length u.sources.items) 65535

-- the first include of a name stands there: the texts with lower numbers have none
pub record StandsFirst (u : unit.Unit) (name : List ℕ) (at : Spot) : Type 0 where
  pub byte : ℕ
  pub here : IsFirstByte (text_in u at.file) name (Some byte)
  pub byte_is : at.byte ≡ spot_byte byte
  pub before : (file : ℕ) → file < at.file → IsFirstByte (text_in u file) name None

-- no text includes it; the place is then the start of the main text
pub record StandsNowhere (u : unit.Unit) (name : List ℕ) (at : Spot) : Type 0 where
  pub at_start : at ≡ record { file = 0; byte = 0 }
  pub nowhere : (file : ℕ) → file ≤ last_file u → IsFirstByte (text_in u file) name None

-- the first include of that name in a unit
abbrev pub IsFirstInclude : unit.Unit → List ℕ → Spot → Type 0
IsFirstInclude u name at = StandsFirst u name at ⊎ StandsNowhere u name at

-- how two units take a name, of which the first has that path
abbrev pub told : List ℕ → Option Source → Option Source → List ℕ
told path (Some a) (Some b) = a.path.items ++ codes " and " ++ b.path.items ++ codes " both have this name"
told path None (Some b) = b.path.items ++ codes " has this name, and nothing has it for " ++ path
told path (Some a) None = codes "nothing has this name here, and " ++ a.path.items ++ codes " has it for " ++ path
told path None None = []

-- what is said of a name that a unit takes otherwise than one before it: where the unit includes it, and on which way that is reached
pub record IsAmbiguous (u : unit.Unit) (name : List ℕ) (message : List ℕ) (r : FaultReport) : Type 0 where
  pub at : Spot
  pub first : IsFirstInclude u name at
  pub kind : r.kind.now ≡ codes "AmbiguousInclude"
  pub message_is : r.message.items ≡ message
  pub path : r.path.items ≡ path_in u at.file
  pub place : r.place ≡ place_if (not (is_folder_in u at.file)) (text_in u at.file) at.byte
  pub excerpt : r.excerpt.items ≡ excerpt_if (not (is_folder_in u at.file)) (text_in u at.file) at.byte
  pub chain : AreLinks u (node_in u at.file) r.chain.items
  pub further : r.further.items ≡ []

-- The first unit that takes a name otherwise than those before it, and what is said of it.
pub record IsTakenOtherwise (units : List unit.Unit) (r : FaultReport) : Type 0 where
  pub number : ℕ
  pub one : unit.Unit
  pub is : slice_get units number ≡ Some one
  pub agree : AgreeBelow units number
  pub name : List ℕ
  pub first : Meant
  pub here : Meant
  pub first_is : first_meaning (take number units) name ≡ Some first
  pub here_is : meaning_in one name ≡ Some here
  pub other : is_same first.source here.source ≡ false
  pub said : IsAmbiguous one name (told first.by.path.items first.source here.source) r

-- the fault is one of a name, of which this is said, or want of memory
abbrev pub NamedIn : (FaultReport → Type 0) → UnitFault → Type 0
NamedIn P NoMemory = ⊤
NamedIn P (At path why) = ⊥
NamedIn P (Ambiguous r) = P r

-- ---- what is kept of the names

-- what was found, without where it lies in memory
abbrev pub found_source : Option (Bor Source) → Option Source
found_source found = option_map (λ s. s.now) found

-- what a name means, without where it lies in memory
abbrev pub meant : Meaning → Meant
meant m = record { by = m.unit.now; source = found_source m.source }

-- names with what they mean
abbrev pub Kept : Type 0
Kept = List (Bor (List ℕ) × Meaning)

-- what a name stands for that is kept
abbrev pub kept_meaning : List ℕ → Kept → Option Meant
kept_meaning name kept = option_map meant (lookup (λ k. is_eq (slice_cmp nat_cmp name k.now)) kept)

-- the sources that kept names stand for, in the order of the names
abbrev pub sources_in : Kept → List Source
sources_in kept = flat_map (λ (e : Bor (List ℕ) × Meaning). option_to_list (found_source e.1.source)) kept

-- a name is kept with what it stands for, unless it is kept already: then it stands for the same
pub record AddsName (name : List ℕ) (m : Meant) (before after : Kept) : Type 0 where
  pub agrees : (first : Meant) → kept_meaning name before ≡ Some first → is_same first.source m.source ≡ true
  pub adds : (n : List ℕ) → kept_meaning n after ≡ option_or (kept_meaning n before) (if is_eq (slice_cmp nat_cmp n name) then Some m else None)

-- it is kept, and stands for something else
pub record NameStays (name : List ℕ) (m : Meant) (kept : Kept) (r : FaultReport) : Type 0 where
  pub first : Meant
  pub is : kept_meaning name kept ≡ Some first
  pub other : is_same first.source m.source ≡ false
  pub said : IsAmbiguous m.by name (told first.by.path.items first.source m.source) r

-- all names of a unit are kept besides, and those that were kept stand for the same in it
pub record AddsNames (u : unit.Unit) (before after : Kept) : Type 0 where
  pub agrees : (name : List ℕ) (first m : Meant) → kept_meaning name before ≡ Some first → meaning_in u name ≡ Some m → is_same first.source m.source ≡ true
  pub adds : (name : List ℕ) → kept_meaning name after ≡ option_or (kept_meaning name before) (meaning_in u name)

-- a name that is kept stands for something else in a unit
pub record IsOtherwise (u : unit.Unit) (kept : Kept) (r : FaultReport) : Type 0 where
  pub name : List ℕ
  pub first : Meant
  pub here : Meant
  pub first_is : kept_meaning name kept ≡ Some first
  pub here_is : meaning_in u name ≡ Some here
  pub other : is_same first.source here.source ≡ false
  pub said : IsAmbiguous u name (told first.by.path.items first.source here.source) r
