-- What is told of labels holds in the policy of all files, whatever profiles the skipped ones have.
-- Source: own.
use Rattle.std.specs.Prelude.{◌≡◌, ℕ, List, [], ◌∷◌, All, Bool, true, false, Option, Some}
use Rattle.std.specs.List.{slice_get}
use Rattle.aa_model.specs.declared.policy.Policy.{Policy}
use Rattle.aa_model.specs.declared.label.Label.{Label}
use Rattle.aa_model.specs.declared.request.Request.{Request}
use Rattle.aa_command.specs.declared.decided.Decided.{Decided}
use Rattle.aa_skipping.specs.Laws.{moved}
use Rattle.aa_skipped.specs.declared.skipped.Skipped.{Skipped}
use Rattle.aa_undecided.specs.Holding.{IsWhole}
use Rattle.aa_representatives.specs.Askable.{IsAskable}
use Rattle.aa_reachability.specs.declared.trail.Arrival.{Arrival}
use Rattle.aa_reachability.specs.declared.reached.Untold.{Untold}
use Rattle.aa_reachability.specs.Moves.{label_going, is_left_out}
use Rattle.aa_reachability.specs.Reach.{AreTold, led_by, way_at}
use Rattle.aa_reachability.specs.Beside.{IsSure}
use Rattle.aa_reach.specs.Doubts.{Doubted, IsShut}
use Rattle.aa_reach.specs.Routes.{Routed, Barred, IsSearched, AreRoutes}

-- where a task gets by requests in the policy of all files
abbrev pub label_there : Bool → Policy → Label → List Request → Label
label_there enforced whole from rs = led_by (label_going enforced (whole ∷ [])) from rs

-- it is a label of none of these arrivals but of those at which nothing is undecided and of which it is told where requests lead on
abbrev pub IsSureThere : List Policy → List Skipped → List Untold → List Arrival → (ℕ → ℕ) → Label → Type 0
IsSureThere ps skipped untold arrivals place m =
    (i : ℕ) (a : Arrival) → slice_get arrivals i ≡ Some a → m ≡ moved place a.label → IsSure untold (IsShut ps skipped) a.label

-- one of the arrivals is at that label there
abbrev pub IsOneThere : List Arrival → (ℕ → ℕ) → Label → Type 0
IsOneThere arrivals place m = (i : ℕ) × (a : Arrival) × (slice_get arrivals i ≡ Some a) × (m ≡ moved place a.label)

-- all of the requests count: where clean paths alone do, none is at an unclean one
abbrev pub AllCount : Bool → List Request → Type 0
AllCount clean rs = All (λ (r : Request). is_left_out clean r ≡ false) rs

-- what a search finds holds there: the same requests lead to each label that is reached; and requests that count and that lead on from no
-- label at which something is undecided or from which it isn't told lead to none but these
pub record HoldsOf (clean enforced : Bool) (ps : List Policy) (skipped : List Skipped) (whole : Policy) (place : ℕ → ℕ) (limit : ℕ) (from : Label)
    (s : IsSearched clean enforced ps skipped limit from) : Type 0 where
  pub reached : (i : ℕ) (a : Arrival) → slice_get s.arrivals i ≡ Some a
      → label_there enforced whole (moved place from) (way_at s.are.ways i) ≡ moved place a.label
  pub others : (rs : List Request) → AllCount clean rs
      → AreTold (label_going enforced (whole ∷ [])) (IsSureThere ps skipped s.untold s.arrivals place) (moved place from) rs
      → IsOneThere s.arrivals place (label_there enforced whole (moved place from) rs)

-- what is told holds there: what both searches find; where no label is named undecided or not told, no requests at clean paths lead to
-- another; where unclean paths count, no requests do; and where none is named so apart either, none do
pub record HoldsThere (counts enforced : Bool) (ps : List Policy) (skipped : List Skipped) (whole : Policy) (place : ℕ → ℕ) (limit : ℕ) (from : Label)
    (targets : Option (List Label)) (routes : List Routed) (bars : List Barred) (doubts : List Doubted) (apart : List Routed) (apart_bars : List Barred)
    (apart_doubts : List Doubted) (told : AreRoutes counts enforced ps skipped limit from targets routes bars doubts apart apart_bars apart_doubts)
    : Type 0 where
  pub clean : HoldsOf true enforced ps skipped whole place limit from told.clean
  pub all : HoldsOf false enforced ps skipped whole place limit from told.all
  pub every_clean : bars ≡ [] → doubts ≡ [] → (rs : List Request) → All IsAskable rs → AllCount true rs
      → IsOneThere told.clean.arrivals place (label_there enforced whole (moved place from) rs)
  pub every : counts ≡ true → bars ≡ [] → doubts ≡ [] → (rs : List Request) → All IsAskable rs
      → IsOneThere told.all.arrivals place (label_there enforced whole (moved place from) rs)
  pub every_apart : bars ≡ [] → doubts ≡ [] → apart_bars ≡ [] → apart_doubts ≡ [] → (rs : List Request) → All IsAskable rs
      → IsOneThere told.all.arrivals place (label_there enforced whole (moved place from) rs)

-- so of all that is told, in each policy of the files that are read and of whatever profiles the skipped ones have by their heads
abbrev pub LabelsHold : Type 0
LabelsHold = (d : Decided) (skipped : List Skipped) (read whole : Policy) (place : ℕ → ℕ) → IsWhole d skipped read whole place
    → (counts enforced : Bool) (limit : ℕ) (from : Label) (targets : Option (List Label)) (routes : List Routed) (bars : List Barred) (doubts : List Doubted)
    → (apart : List Routed) (apart_bars : List Barred) (apart_doubts : List Doubted)
    → (told : AreRoutes counts enforced d.policies.now skipped limit from targets routes bars doubts apart apart_bars apart_doubts)
    → HoldsThere counts enforced d.policies.now skipped whole place limit from targets routes bars doubts apart apart_bars apart_doubts told
