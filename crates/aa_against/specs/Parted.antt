-- Requests of logs that are decided where files are skipped, and requests that these could decide otherwise.
-- Source: own.
use Rattle.std.specs.Prelude.{ℕ, List, [], ◌∷◌, flat_map, Option, Some, None}
use Rattle.std.specs.Option.{option_map_or}
use Rattle.std.specs.List.{slice_get}
use Rattle.aa_model.specs.declared.policy.Policy.{Policy}
use Rattle.aa_model.specs.declared.label.Label.{Label}
use Rattle.aa_model.specs.declared.request.Request.{Request}
use Rattle.aa_compile.specs.Labels.{label_named}
use Rattle.aa_command.specs.declared.decided.Decided.{Decided}
use Rattle.aa_skipped.specs.declared.skipped.Skipped.{Skipped}
use Rattle.aa_log.specs.declared.logging.Entry.{Entry}
use Rattle.aa_undecided.specs.Answers.{PlacedFile, placed_all, files_deciding}
use Rattle.aa_undecided.specs.Named.{files_holding_in}
use Rattle.aa_against.specs.declared.parting.Open.{Open}

-- a request that is undecided, with the skipped files that could decide it
pub record OpenData : Type 0 where
  pub entry : Entry
  pub files : List PlacedFile

-- the same without where it lies in memory
abbrev pub open_data : Open → OpenData
open_data o = record { entry = o.entry.now; files = placed_all o.files.items }

-- the files that could decide what is asked at a profile: those that may have it, where it isn't read, else those that could change the answer
abbrev pub files_by : List Policy → List Skipped → List ℕ → Request → Option Label → List PlacedFile
files_by policies skipped name request None = option_map_or (files_holding_in skipped name) (slice_get policies 0) []
files_by policies skipped name request (Some label) = files_deciding policies skipped label request

-- those that could decide a request of logs
unfoldable pub files_for : Decided → List Skipped → Entry → List PlacedFile
files_for d skipped e = files_by d.policies.now skipped e.profile.items e.request (label_named d.policies.now 0 e.profile.items)

-- the request, where no file could decide it
abbrev pub decided_if : Entry → List PlacedFile → List Entry
decided_if e [] = e ∷ []
decided_if e (file ∷ files) = []

-- the request with the files, where some could
abbrev pub open_if : Entry → List PlacedFile → List OpenData
open_if e [] = []
open_if e (file ∷ files) = record { entry = e; files = file ∷ files } ∷ []

-- the requests that are decided
abbrev pub decided_among : Decided → List Skipped → List Entry → List Entry
decided_among d skipped es = flat_map (λ (e : Entry). decided_if e (files_for d skipped e)) es

-- the others
abbrev pub open_among : Decided → List Skipped → List Entry → List OpenData
open_among d skipped es = flat_map (λ (e : Entry). open_if e (files_for d skipped e)) es
