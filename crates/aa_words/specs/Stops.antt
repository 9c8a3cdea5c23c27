-- Where and why a text can't be cut further: at the first place where no piece stands, or at an include that is refused.
-- Source: own.
use Rattle.std.specs.Prelude.{ℕ, zero, suc, false, drop, ◌==◌, ◌+◌, ◌-◌, ◌<◌, ◌≤◌, ◌≡◌, ◌⊎◌, List, [], ◌∷◌, ◌++◌}
use Rattle.std.specs.Prelude.{length, take, if◌then◌else◌, Option, Some, None, Result, Ok, Err, codes, Bool, ◌&&◌}
use Rattle.std.specs.Str.{bytes_eq}
use Rattle.aa_base.specs.declared.fault.PolicyKind.TheVariants.{Syntax, TooLarge}
use Rattle.aa_base.specs.declared.fault.PolicyFault.{PolicyFault}
use Rattle.aa_words.specs.declared.piece.Piece.TheVariants.{Include}
use Rattle.aa_words.specs.declared.piece.Place.{Place}
use Rattle.aa_words.specs.declared.reading.Reading.{Reading}
use Rattle.aa_words.specs.declared.reading.Count.{Count}
use Rattle.aa_words.specs.Runs.{begins_with, name_len, quote_len, skipped_len}
use Rattle.aa_words.specs.Includes.{include_form}
use Rattle.aa_base.specs.Kinds.{at_start, no_memory}
use Rattle.aa_words.specs.Splits.{WordData, start, is_beginning, Part, spelled, IsPart, place_after, piece_at, extent, Opening, Setting, include_opens, fault_of_kind, Gives, Reads, main_reading, main_count}

-- how far the form of an include goes before it breaks off
abbrev pub form_reach : List ℕ → Result (List ℕ) (List ℕ) → ℕ
form_reach bytes (Ok rest) = 0
form_reach bytes (Err broken) = length bytes - length broken

-- the keyword of an include stands first, whole
abbrev pub is_keyword : List ℕ → Bool
is_keyword bytes = bytes_eq (take (name_len bytes) bytes) (codes "include")

-- how far a reading gets where no piece stands: to where an include's form breaks off, or up to the end of a quote that is not closed, or of a rule that is passed over and that no comma ends
unfoldable pub reach : Place → List ℕ → ℕ
reach place [] = 0
reach place (b ∷ bs) =
    if b == 0 then 0
    else (if b == 34 then (if place.behind_run then 0 else suc (quote_len false bs))
    else (if is_beginning place.rule && is_keyword (b ∷ bs) then form_reach (b ∷ bs) (include_form (drop (name_len (b ∷ bs)) (b ∷ bs)))
    else suc (skipped_len bs)))

-- the byte at which it is at fault: the zero byte at which the reading breaks off, else the first
abbrev pub ahead : List ℕ → ℕ → ℕ
ahead bytes n = if begins_with 0 (drop n bytes) then n else 0

-- why the text stops where no piece stands
abbrev pub fault_at : Reading → Place → ℕ → List ℕ → PolicyFault
fault_at r place at bytes = fault_of_kind Syntax (record { file = r.file; byte = at + ahead bytes (reach place bytes) })

-- the pieces lead from one place to another, before the rest
abbrev pub LeadTo : Place → List Part → List ℕ → Place → Type 0
LeadTo from [] rest place = from ≡ place
LeadTo from (p ∷ ps) rest place = IsPart from p (spelled ps ++ rest) × LeadTo (place_after from p.kind p.text) ps rest place

-- the text is read up to a place, the pieces before it give words, and the rest stands behind it
pub record ReadTo (deeper : Reading → List ℕ → Count → List WordData → Count → Type 0) (s : Setting) (text : List ℕ) (n : Count) (place : Place) (at : ℕ) (rest : List ℕ) (found : List WordData) (k : Count) : Type 0 where
  pub parts : List Part
  pub whole : text ≡ spelled parts ++ rest
  pub leads : LeadTo start parts rest place
  pub place_is : at ≡ length (spelled parts)
  pub gives : Gives deeper s 0 parts n found k

-- an include fails by itself, or in what it opens
abbrev pub IncludeFails : (Reading → List ℕ → Count → PolicyFault → Type 0) → Result (Option Opening) PolicyFault → PolicyFault → Type 0
IncludeFails fails (Ok None) fault = ⊥
IncludeFails fails (Ok (Some o)) fault = fails o.reading o.text o.count fault
IncludeFails fails (Err own) fault = fault ≡ own

-- the text is read up to a place where no piece stands, or an include that fails
pub record StopsBy (deeper : Reading → List ℕ → Count → List WordData → Count → Type 0)
    (fails : Reading → List ℕ → Count → PolicyFault → Type 0) (s : Setting) (text : List ℕ) (n : Count) (fault : PolicyFault) : Type 0 where
  pub place : Place
  pub at : ℕ
  pub rest : List ℕ
  pub found : List WordData
  pub count : Count
  pub read : ReadTo deeper s text n place at rest found count
  pub more : 0 < length rest
  pub stop : ((piece_at place rest ≡ None) × (fault ≡ fault_at s.reading place at rest)) ⊎ ((piece_at place rest ≡ Some Include) × IncludeFails fails (include_opens s at (take (extent Include rest) rest) count) fault)

-- With so many depths for it and its includes, the reading of a text stops with this fault.
unfoldable pub Fails : ℕ → List (List ℕ × List ℕ) → Reading → List ℕ → Count → PolicyFault → Type 0
Fails zero sources r text n fault = ⊥
Fails (suc d) sources r text n fault = StopsBy (Reads d sources) (Fails d sources) (record { sources = sources; depth = d; reading = r }) text n fault

-- why a text has no words: want of memory, its size, or the first place where its reading stops
abbrev pub IsFaultOf : List (List ℕ × List ℕ) → List ℕ → PolicyFault → Type 0
IsFaultOf sources main fault = (fault ≡ no_memory) ⊎ ((1048576 < length main) × (fault ≡ at_start TooLarge)) ⊎ ((length main ≤ 1048576) × Fails 17 sources main_reading main (main_count main) fault)
