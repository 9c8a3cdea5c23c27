-- Where nothing that counts is told of somebody, both policies answer alike what counts, whatever profiles the skipped files have.
-- Source: own.
use Rattle.std.specs.Prelude.{◌≡◌, ℕ, List, [], ◌∷◌, Bool, true, false, Option, Some, None, Contains}
use Rattle.std.specs.List.{list_any, slice_get}
use Rattle.std.specs.Str.{bytes_eq}
use Rattle.aa_files.specs.Texts.{texts}
use Rattle.aa_model.specs.declared.policy.Policy.{Policy}
use Rattle.aa_model.specs.declared.policy.Profile.{Profile}
use Rattle.aa_model.specs.declared.label.Label.{Label}
use Rattle.aa_model.specs.declared.label.Label.TheVariants.{Unconfined, Confined}
use Rattle.aa_model.specs.declared.request.Request.{Request}
use Rattle.aa_compile.specs.Labels.{profile_in}
use Rattle.aa_representatives.specs.Askable.{IsAskable}
use Rattle.aa_skipping.specs.Joined.{IsJoinedWith}
use Rattle.aa_skipping.specs.Names.{is_of}
use Rattle.aa_skipped.specs.Together.{together}
use Rattle.aa_undecided.specs.Holding.{unreads}
use Rattle.aa_differences.specs.declared.at_labels.Difference.{Difference}
use Rattle.aa_differences.specs.Same.{name_of, AnsweredAlike}
use Rattle.aa_differences.specs.declared.comparison.UntoldLabels.{UntoldLabels}
use Rattle.aa_differences.specs.Differences.{ListAllBut}
use Rattle.aa_diff.specs.declared.options.Wanted.{Wanted}
use Rattle.aa_diff.specs.declared.part.Part.{Part}
use Rattle.aa_diff.specs.declared.finding.Finding.{Finding}
use Rattle.aa_unclean_paths.specs.Requests.{does_request_count}
use Rattle.aa_diff.specs.Report.{lines_of}
use Rattle.aa_diff.specs.Untold.{About, Free, Named, Others, Untold, Large, all_untold, decided_of}

-- the policy of all files of a side: the one that is read, with whatever profiles the skipped files have by their heads
pub record IsWholeOf (d : Part) (read whole : Policy) (place : ℕ → ℕ) : Type 0 where
  pub one : d.decided.policies.now ≡ read ∷ []
  pub joined : IsJoinedWith (together (unreads d.skipped.now)) read.profiles whole.profiles place

-- the name of a label's profile, if it is one of a profile that is there
abbrev pub called_at : List Policy → Label → Option (List ℕ)
called_at ps (Unconfined k) = None
called_at ps (Confined k n) = name_of (profile_in ps k n)

-- it is tasks without a profile
abbrev pub is_nobody : About → Bool
is_nobody Free = true
is_nobody (Named name) = false
is_nobody Others = false

-- it is the profile of that name
abbrev pub names : List ℕ → About → Bool
names name Free = false
names name (Named own) = bytes_eq own name
names name Others = false

-- it is that profile, or one of which that is a child, or any
abbrev pub covers_name : List ℕ → About → Bool
covers_name name Free = false
covers_name name (Named own) = is_of own name
covers_name name Others = true

-- something isn't told of the profile of that name
abbrev pub is_untold : List ℕ → Untold → Bool
is_untold name u = names name u.who

-- something isn't told of tasks without a profile
abbrev pub is_free : Untold → Bool
is_free u = is_nobody u.who

-- the patterns at the label of the profile of that name are too many
abbrev pub is_large : List ℕ → Large → Bool
is_large name x = names name x.who

-- those of tasks without a profile are
abbrev pub is_free_large : Large → Bool
is_free_large x = is_nobody x.who

-- it isn't compared
abbrev pub is_apart : List ℕ → Untold → Bool
is_apart name u = covers_name name u.who

-- the lines of differences that no skipped file could decide
abbrev pub lines_told : Part → Part → List Difference → List Finding
lines_told d e xs = lines_of d.decided e.decided (decided_of d e xs)

-- a line counts, where unclean paths do or don't
abbrev pub DoesCount : Bool → Finding → Type 0
DoesCount unclean f = does_request_count unclean f.request ≡ true

-- of all that is told of these differences and of these labels at which they can't be told, no line that counts is about the profile of that name,
-- nothing is undecided there, and it is compared
pub record IsQuiet (unclean : Bool) (w : Wanted) (limit : ℕ) (d e : Part) (xs : List Difference) (us : List UntoldLabels) (name : List ℕ) : Type 0 where
  pub lines : (f : Finding) → Contains (lines_told d e xs) f → DoesCount unclean f → called_at d.decided.policies.now f.from ≡ Some name → ⊥
  pub decided : list_any (is_untold name) ((all_untold w limit d e us).undecided) ≡ false
  pub compared : list_any (is_apart name) ((all_untold w limit d e us).not_compared) ≡ false
  pub small : list_any (is_large name) ((all_untold w limit d e us).too_large) ≡ false

-- so of tasks without a profile
pub record IsQuietFree (unclean : Bool) (w : Wanted) (limit : ℕ) (d e : Part) (xs : List Difference) (us : List UntoldLabels) : Type 0 where
  pub lines : (f : Finding) → Contains (lines_told d e xs) f → DoesCount unclean f → f.from ≡ Unconfined 0 → ⊥
  pub decided : list_any is_free ((all_untold w limit d e us).undecided) ≡ false
  pub small : list_any is_free_large ((all_untold w limit d e us).too_large) ≡ false

-- two policies of all files of each side, and all differences of those that are read but at these labels
pub record AreBeside (w : Wanted) (d e : Part) (xs : List Difference) (us : List UntoldLabels) (read whole read' whole' : Policy) (place place' : ℕ → ℕ) : Type 0 where
  pub all : texts w.profiles.now ≡ []
  pub listed : ListAllBut d.decided.policies.now e.decided.policies.now us xs
  pub old : IsWholeOf d read whole place
  pub new : IsWholeOf e read' whole' place'

-- where nothing that counts is told of a profile, both policies of all files answer each request that counts alike there: where unclean paths
-- count, each request, and where they don't, each at a clean path
abbrev pub ProfilesHold : Type 0
ProfilesHold = (unclean : Bool) (w : Wanted) (limit : ℕ) (d e : Part) (xs : List Difference) (us : List UntoldLabels) (read whole read' whole' : Policy) (place place' : ℕ → ℕ)
    → AreBeside w d e xs us read whole read' whole' place place' → (name : List ℕ) → IsQuiet unclean w limit d e xs us name → (m n : ℕ) (p q : Profile) → slice_get whole.profiles m ≡ Some p → p.name ≡ name → slice_get whole'.profiles n ≡ Some q → q.name ≡ name
    → (r : Request) → IsAskable r → does_request_count unclean r ≡ true → AnsweredAlike (whole ∷ []) (whole' ∷ []) (Confined 0 m) (Confined 0 n) r

-- so do they where nothing that counts is told of tasks without a profile
abbrev pub FreeHold : Type 0
FreeHold = (unclean : Bool) (w : Wanted) (limit : ℕ) (d e : Part) (xs : List Difference) (us : List UntoldLabels) (read whole read' whole' : Policy) (place place' : ℕ → ℕ)
    → AreBeside w d e xs us read whole read' whole' place place' → IsQuietFree unclean w limit d e xs us → (r : Request) → IsAskable r → does_request_count unclean r ≡ true → AnsweredAlike (whole ∷ []) (whole' ∷ []) (Unconfined 0) (Unconfined 0) r
