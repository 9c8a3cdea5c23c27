-- The labels that a task can get to, where profiles that weren't read could change what is answered.
-- Source: breadth-first search; own.
use Rattle.std.specs.Prelude.{◌≡◌, ◌⊎◌, ◌≤◌, ◌+◌, ℕ, List, [], ◌∷◌, map, length, Bool, true, false, not, ◌||◌, if◌then◌else◌, Some, Contains, slice_index_or}
use Rattle.std.specs.Option.{option_map_or}
use Rattle.std.specs.List.{list_any, slice_get}
use Rattle.aa_model.specs.declared.policy.Policy.{Policy}
use Rattle.aa_model.specs.declared.label.Label.{Label}
use Rattle.aa_model.specs.declared.label.Label.TheVariants.{Unconfined, Confined}
use Rattle.aa_model.specs.declared.request.Request.{Request}
use Rattle.aa_compile.specs.FileRules.{is_nil}
use Rattle.aa_skipping.specs.declared.unread.Unread.{Unread}
use Rattle.aa_skipping.specs.Undecided.{undecided}
use Rattle.aa_representatives.specs.Askable.{IsAskable}
use Rattle.aa_reachability.specs.declared.trail.Step.{Step}
use Rattle.aa_reachability.specs.declared.trail.Arrival.{Arrival}
use Rattle.aa_reachability.specs.declared.reached.Untold.{Untold}
use Rattle.aa_reachability.specs.Order.{IsNoLater}
use Rattle.aa_reachability.specs.Moves.{label_going, is_left_out}
use Rattle.aa_reachability.specs.Reach.{AreWays, AreTold, IsNear, IsOpen, led_by, way_at}

-- ---- which requests are doubted

-- profiles of one of some files that weren't read could change what a policy answers
abbrev pub one_doubts : List Unread → Label → Request → Policy → Bool
one_doubts unreads l r policy = list_any (λ (u : Unread). undecided policy.profiles u l r) unreads

-- what the one policy answers
unfoldable pub is_doubted : List Policy → List Unread → Label → Request → Bool
is_doubted ps unreads l r = option_map_or (one_doubts unreads l r) (slice_get ps 0) false

-- the label after a request, which leads nowhere where such profiles could change what is answered
abbrev pub label_decided : Bool → List Policy → List Unread → Label → Request → Label
label_decided enforced ps unreads l r = if is_doubted ps unreads l r then l else label_going enforced ps l r

-- so where clean paths alone count or all: one that is left out leads nowhere
abbrev pub label_taken : Bool → Bool → List Policy → List Unread → Label → Request → Label
label_taken clean enforced ps unreads l r = if is_left_out clean r then l else label_decided enforced ps unreads l r

-- the number of a label: that of tasks without a profile is the first
abbrev pub number_of : Label → ℕ
number_of (Unconfined k) = 0
number_of (Confined k n) = n + 1

-- such profiles could change no answer at the label, as far as is told of each label
abbrev pub is_sure : List Unread → List Bool → Label → Bool
is_sure unreads openings l = is_nil unreads || not (slice_index_or openings (number_of l) true)

-- that is told rightly: no request is doubted at a label of which it is so
abbrev pub AreOpenings : List Policy → List Unread → List Bool → Type 0
AreOpenings ps unreads openings = (l : Label) → is_sure unreads openings l ≡ true → (r : Request) → is_doubted ps unreads l r ≡ false

-- ---- where requests lead

-- requests that can be asked; to where one leads, but for the label itself, one of them leads that comes no later
pub record LeadAllOn (go : Label → Request → Label) (l : Label) (rs : List Request) : Type 0 where
  pub each : (r : Request) → Contains rs r → IsAskable r
  pub all : (r : Request) → IsAskable r → (go l r ≡ l) ⊎ ((q : Request) × Contains rs q × (go l r ≡ go l q) × IsNoLater q r)

-- of each request, at the label where it is asked, something holds
abbrev pub HoldAlong : (Label → Request → Label) → (Label → Request → Type 0) → Label → List Request → Type 0
HoldAlong go Holds l [] = Unit {0}
HoldAlong go Holds l (r ∷ rs) = Holds l r × HoldAlong go Holds (go l r) rs

-- it is told of the label where requests lead on from there, and it is a label of that kind
abbrev pub IsSure : List Untold → (Label → Type 0) → Label → Type 0
IsSure untold Sure l = IsOpen untold l × Sure l

-- the requests can be asked, lead on from open labels alone, of each of them that holds, and they lead to the label; no shorter list of
-- requests does that leads on from sure labels alone
pub record IsShortestBeside (go : Label → Request → Label) (Open Sure : Label → Type 0) (Holds : Label → Request → Type 0) (from : Label)
    (a : Arrival) (way : List Request) : Type 0 where
  pub told : AreTold go Open from way
  pub kept : HoldAlong go Holds from way
  pub leads : led_by go from way ≡ a.label
  pub long : length way ≡ a.length
  pub shortest : (rs : List Request) → AreTold go Sure from rs → led_by go from rs ≡ a.label → a.length ≤ length rs

-- arrivals at different labels, each with such a list of requests; one for each label to which requests lead that lead on from sure labels
-- alone; those with shorter lists first
pub record AreArrivalsBeside (go : Label → Request → Label) (Open Sure : Label → Type 0) (Holds : Label → Request → Type 0) (from : Label)
    (arrivals : List Arrival) : Type 0 where
  pub ways : List (List Request)
  pub are : AreWays arrivals ways
  pub each : (i : ℕ) (a : Arrival) → slice_get arrivals i ≡ Some a → IsShortestBeside go Open Sure Holds from a (way_at ways i)
  pub all : (rs : List Request) → AreTold go Sure from rs → (i : ℕ) × (a : Arrival) × (slice_get arrivals i ≡ Some a) × (a.label ≡ led_by go from rs)
  pub once : (i j : ℕ) (a b : Arrival) → slice_get arrivals i ≡ Some a → slice_get arrivals j ≡ Some b → a.label ≡ b.label → i ≡ j
  pub rising : (i j : ℕ) (a b : Arrival) → slice_get arrivals i ≡ Some a → slice_get arrivals j ≡ Some b → i ≤ j → a.length ≤ b.length

-- arrivals at different labels, the label itself first, each by at most one request that can be asked, of which that holds; from a sure label
-- one for each label to which a request leads, and none that leads there comes before its own
pub record AreNearBeside (go : Label → Request → Label) (Sure : Label → Type 0) (Holds : Label → Request → Type 0) (from : Label)
    (arrivals : List Arrival) : Type 0 where
  pub ways : List (List Request)
  pub are : AreWays arrivals ways
  pub first : (a : Arrival) × (slice_get arrivals 0 ≡ Some a) × (a.label ≡ from)
  pub each : (i : ℕ) (a : Arrival) → slice_get arrivals i ≡ Some a → IsNear go from a (way_at ways i)
  pub kept : (i : ℕ) (a : Arrival) → slice_get arrivals i ≡ Some a → HoldAlong go Holds from (way_at ways i)
  pub all : Sure from → (r : Request) → IsAskable r → (i : ℕ) × (a : Arrival) × (slice_get arrivals i ≡ Some a) × (a.label ≡ go from r)
  pub shortest : Sure from → (i : ℕ) (a : Arrival) (step : Step) → slice_get arrivals i ≡ Some a → a.step ≡ Some step
      → (r : Request) → IsAskable r → go from r ≡ a.label → IsNoLater step.request r
  pub once : (i j : ℕ) (a b : Arrival) → slice_get arrivals i ≡ Some a → slice_get arrivals j ≡ Some b → a.label ≡ b.label → i ≡ j
