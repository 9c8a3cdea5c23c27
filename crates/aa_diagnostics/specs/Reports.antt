-- What is said of a fault.
-- Source: own.
use Rattle.std.specs.Prelude.{ℕ, ◌==◌, ◌≡◌, ◌&&◌, List, [], codes, Bool, true, false, not, None}
use Rattle.aa_base.specs.declared.fault.PolicyFault.{PolicyFault}
use Rattle.aa_base.specs.declared.fault.PolicyKind.{PolicyKind}
use Rattle.aa_base.specs.declared.fault.PolicyKind.TheVariants.{TooLarge}
use Rattle.aa_base.specs.Kinds.{kind_name}
use Rattle.aa_files.specs.Texts.{texts}
use Rattle.aa_text.specs.declared.fault.FaultReport.{FaultReport}
use Rattle.aa_base.specs.declared.unread.Unread.{Unread}
use Rattle.aa_base.specs.declared.unread.Unread.TheVariants as unread
use Rattle.aa_files.specs.declared.unit.Unit as unit
use Rattle.aa_files.specs.declared.unit.UnitFault.{UnitFault}
use Rattle.aa_files.specs.declared.unit.UnitFault.TheVariants.{NoMemory, At, Ambiguous}
use Rattle.aa_files.specs.Numbers.{path_in, text_in}
use Rattle.aa_load.specs.UnitPolicy.{limit_of, IsFaultOfUnit}
use Rattle.aa_files.specs.Nodes.{is_folder_in, node_in}
use Rattle.aa_files.specs.Links.{place_if, excerpt_if, AreLinks}
use Rattle.aa_diagnostics.specs.Sentences.{message}
use Rattle.aa_diagnostics.specs.Limits.{IsLimitOf}
use Rattle.aa_diagnostics.specs.Further.{IsFurther, ShowsEarlier}

-- the kind of what is over a limit
abbrev pub is_too_large : PolicyKind → Bool
is_too_large TooLarge = true
is_too_large _ = false

-- TooLarge at the start of the main text is said of the whole
abbrev pub is_of_whole : unit.Unit → PolicyFault → Bool
is_of_whole u f = is_too_large f.kind && node_in u f.at.file == 0 && f.at.byte == 0

-- a fault has a place, unless it is of the whole or lies in the text that a folder stands for
abbrev pub has_place : unit.Unit → PolicyFault → Bool
has_place u f = not (is_folder_in u f.at.file) && not (is_of_whole u f)

-- why there is a fault of a unit: which limit the whole of it passes, or what is wrong at its byte
pub record IsWhy (u : unit.Unit) (states : ℕ) (f : PolicyFault) (said : List ℕ) : Type 0 where
  pub whole : is_of_whole u f ≡ true → IsLimitOf u said
  pub there : is_of_whole u f ≡ false → said ≡ message states (text_in u f.at.file) f.at.byte f.kind

-- what is said of a fault of a unit: in which file it lies and where, why, and with these lines behind it
pub record IsReport (u : unit.Unit) (states : ℕ) (f : PolicyFault) (lines : List (List ℕ)) (r : FaultReport) : Type 0 where
  pub kind : r.kind.now ≡ kind_name f.kind
  pub path : r.path.items ≡ path_in u f.at.file
  pub place : r.place ≡ place_if (has_place u f) (text_in u f.at.file) f.at.byte
  pub message : IsWhy u states f r.message.items
  pub excerpt : r.excerpt.items ≡ excerpt_if (has_place u f) (text_in u f.at.file) f.at.byte
  pub chain : AreLinks u (node_in u f.at.file) r.chain.items
  pub further : texts r.further.items ≡ lines

-- the same with what else helps; of a fault that the unit's policy has, the earlier one is shown of two variables or profiles of one name, and the conflict
pub record IsDescribed (u : unit.Unit) (folders : List (List ℕ)) (states : ℕ) (f : PolicyFault) (r : FaultReport) : Type 0 where
  pub lines : List (List ℕ)
  pub are : IsFurther u folders states f.at lines f.kind
  pub earlier : IsFaultOfUnit (limit_of states) u f → ShowsEarlier u f.at lines f.kind
  pub report : IsReport u states f lines r

-- what is said of a path as a whole
pub record IsOfWhole (kind path message : List ℕ) (r : FaultReport) : Type 0 where
  pub kind_is : r.kind.now ≡ kind
  pub path_is : r.path.items ≡ path
  pub place : r.place ≡ None
  pub message_is : r.message.items ≡ message
  pub excerpt : r.excerpt.items ≡ []
  pub chain : r.chain.items ≡ []
  pub further : r.further.items ≡ []

-- why a path can't be read
abbrev pub unread_kind : Unread → List ℕ
unread_kind unread.TooLarge = codes "TooLarge"
unread_kind _ = codes "Unreadable"

-- the sentence for what can't be read
abbrev pub unread_message : Unread → List ℕ
unread_message unread.NoMemory = codes "it can't be read (no memory)"
unread_message unread.NotFound = codes "it can't be read (not found)"
unread_message unread.NotAllowed = codes "it can't be read (not allowed)"
unread_message unread.NotAFile = codes "it can't be read (not a file)"
unread_message unread.Failed = codes "it can't be read (failed)"
unread_message unread.TooLarge = codes "a file has at most 1,048,576 bytes, a command line 4,096 files, and a profile file 4,095 included texts"

-- what is said of a unit that can't be read, and whether that is why
abbrev pub IsSaid : UnitFault → FaultReport → Bool → Type 0
IsSaid NoMemory fault is_unread = ⊥
IsSaid (At path why) fault is_unread = IsOfWhole (unread_kind why) path.items (unread_message why) fault × (is_unread ≡ true)
IsSaid (Ambiguous ambiguous) fault is_unread = (fault ≡ ambiguous) × (is_unread ≡ false)
