-- Labels at which an execution or a change could lead into skipped files.
-- Source: own.
use Rattle.std.specs.Prelude.{◌≡◌, ◌+◌, ◌<◌, ℕ, zero, suc, List, [], ◌∷◌, ◌++◌, map, filter, flat_map, length, slice_index_or, Bool}
use Rattle.std.specs.Prelude.{true, false, if◌then◌else◌}
use Rattle.std.specs.Option.{option_map_or}
use Rattle.std.specs.List.{list_any, slice_get}
use Rattle.aa_model.specs.declared.policy.Policy.{Policy}
use Rattle.aa_model.specs.declared.label.Label.{Label}
use Rattle.aa_model.specs.declared.label.Label.TheVariants.{Unconfined, Confined}
use Rattle.aa_model.specs.declared.request.Request.{Request}
use Rattle.aa_skipped.specs.declared.skipped.Skipped.{Skipped}
use Rattle.aa_ask.specs.Told.{is_same}
use Rattle.aa_undecided.specs.Answers.{PlacedFile, placed, placed_all}
use Rattle.aa_undecided.specs.Holding.{unreads}
use Rattle.aa_reachability.specs.declared.trail.Arrival.{Arrival}
use Rattle.aa_reachability.specs.Moves.{is_left_out}
use Rattle.aa_reachability.specs.Beside.{is_doubted, AreOpenings}
use Rattle.aa_reachability.specs.Course.{unreads_of, HasOpenings, IsSureOn}
use Rattle.aa_reach.specs.declared.beside.Beside.{Beside}
use Rattle.aa_reach.specs.declared.doubts.Doubt.{Doubt}
use Rattle.aa_reach.specs.Heads.{may_hold}
use Rattle.aa_reach.specs.Names.{Name, name_in, name_of, name_left_open}
use Rattle.aa_differences.specs.Openings.{is_open_label}
use Rattle.aa_model.specs.declared.policy.Profile.{Profile}

-- a skipped file could change what is answered at a label: an execution or a change could lead into it
abbrev pub opens : List Profile → Label → Skipped → Bool
opens profiles l k = is_open_label profiles k.unread l

-- the files of which that is so
abbrev pub files_opening_in : List Skipped → Label → Policy → List PlacedFile
files_opening_in skipped l policy = map placed (filter (opens policy.profiles l) skipped)

-- the same by the one policy
unfoldable pub files_opening : List Policy → List Skipped → Label → List PlacedFile
files_opening ps skipped l = option_map_or (files_opening_in skipped l) (slice_get ps 0) []

-- there are such files
abbrev pub is_opened_in : List Skipped → Label → Policy → Bool
is_opened_in skipped l policy = list_any (opens policy.profiles l) skipped

-- so by the one policy, or there is none
unfoldable pub is_opened : List Policy → List Skipped → Label → Bool
is_opened ps skipped l = option_map_or (is_opened_in skipped l) (slice_get ps 0) true

-- no skipped file could change what is answered at the label
abbrev pub IsShut : List Policy → List Skipped → Label → Type 0
IsShut ps skipped l = is_opened ps skipped l ≡ false

-- nor what is answered there to the request
abbrev pub IsDecided : List Policy → List Skipped → Label → Request → Type 0
IsDecided ps skipped l r = is_doubted ps (unreads skipped) l r ≡ false

-- nor is it left out
abbrev pub IsTaken : Bool → List Policy → List Skipped → Label → Request → Type 0
IsTaken clean ps skipped l r = IsDecided ps skipped l r × (is_left_out clean r ≡ false)

-- a label at which an execution or a change could lead into skipped files, and these
pub record Doubted : Type 0 where
  pub at : Name
  pub files : List PlacedFile

-- one, without where it lies in memory
abbrev pub doubted : Doubt → Doubted
doubted d = record { at = name_in d.at; files = placed_all d.files.items }

-- that, where there are such files
abbrev pub doubted_if : Name → List PlacedFile → List Doubted
doubted_if at [] = []
doubted_if at (file ∷ files) = record { at = at; files = file ∷ files } ∷ []

-- of a label
abbrev pub doubted_at : List Policy → List Skipped → Label → List Doubted
doubted_at ps skipped l = doubted_if (name_of ps l) (files_opening ps skipped l)

-- of those of arrivals
abbrev pub doubted_of : List Policy → List Skipped → Arrival → List Doubted
doubted_of ps skipped a = doubted_at ps skipped a.label

-- one of the arrivals is at the label
abbrev pub is_reached_by : List Arrival → Label → Bool
is_reached_by arrivals l = list_any (λ (a : Arrival). is_same l a.label) arrivals

-- of those of arrivals at whose labels none of these is
abbrev pub doubted_but : List Policy → List Skipped → List Arrival → Arrival → List Doubted
doubted_but ps skipped but a = if is_reached_by but a.label then [] else doubted_of ps skipped a

-- of a text that names no label of these policies: the skipped files that may hold a profile which it names
abbrev pub doubted_name : List Skipped → List ℕ → Doubted
doubted_name skipped text = record { at = name_left_open text; files = map placed (filter (may_hold text) skipped) }

-- ---- openings, label by label

-- the label of a number: first that of tasks without a profile
abbrev pub label_numbered : ℕ → Label
label_numbered zero = Unconfined 0
label_numbered (suc n) = Confined 0 n

-- of the first labels it is told whether there are such files
pub record AreOpened (ps : List Policy) (skipped : List Skipped) (many : ℕ) (openings : List Bool) : Type 0 where
  pub long : length openings ≡ many
  pub each : (n : ℕ) → n < many → slice_index_or openings n true ≡ is_opened ps skipped (label_numbered n)

-- what goes on beside these files is told of their profiles, and of each label at which none could change what is answered
pub record IsBeside (b : Beside) : Type 0 where
  pub unread : unreads_of b.course.unreads.now ≡ unreads b.skipped.now
  pub rightly : HasOpenings b.course
  pub shut : (l : Label) → IsShut b.course.going.policies.now b.skipped.now l → IsSureOn b.course l
