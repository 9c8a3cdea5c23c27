-- The labels that a task can get to.
-- Source: breadth-first search; own.
use Rattle.std.specs.Prelude.{◌≡◌, ◌<◌, ◌≤◌, ◌++◌, ◌∷◌, [], ℕ, List, Bool, false, Option, Some, None, All, Contains, length, slice_index_or}
use Rattle.std.specs.List.{slice_get}
use Rattle.aa_model.specs.declared.policy.Policy.{Policy}
use Rattle.aa_model.specs.declared.label.Label.{Label}
use Rattle.aa_model.specs.declared.request.Request.{Request}
use Rattle.aa_representatives.specs.Askable.{IsAskable}
use Rattle.aa_reachability.specs.declared.trail.Step.{Step}
use Rattle.aa_reachability.specs.declared.trail.Arrival.{Arrival}
use Rattle.aa_reachability.specs.declared.reached.Untold.{Untold}
use Rattle.aa_reachability.specs.Order.{IsNoLater}
use Rattle.aa_reachability.specs.Moves.{HaveManyPatternsAt, IsWhyFor}

-- the label after requests, one after another, where each leads on so
abbrev pub led_by : (Label → Request → Label) → Label → List Request → Label
led_by go l [] = l
led_by go l (r ∷ rs) = led_by go (go l r) rs

-- the list of requests with that number
abbrev pub way_at : List (List Request) → ℕ → List Request
way_at ways i = slice_index_or ways i []

-- the requests by which arrival i is got to: none where the task begins, else those of an earlier arrival, and one more
abbrev pub IsWay : ℕ → Option Step → List (List Request) → List Request → Type 0
IsWay i None ways way = way ≡ []
IsWay i (Some step) ways way = (step.from < i) × (way ≡ way_at ways step.from ++ step.request ∷ [])

-- those of each arrival
pub record AreWays (arrivals : List Arrival) (ways : List (List Request)) : Type 0 where
  pub many : length ways ≡ length arrivals
  pub each : (i : ℕ) (a : Arrival) → slice_get arrivals i ≡ Some a → IsWay i a.step ways (way_at ways i)

-- there are such lists of requests
abbrev pub HaveWays : List Arrival → Type 0
HaveWays arrivals = (ways : List (List Request)) × AreWays arrivals ways

-- the label isn't one from which it isn't told where requests lead on
abbrev pub IsOpen : List Untold → Label → Type 0
IsOpen untold l = (u : Untold) → Contains untold u → u.label ≡ l → ⊥

-- the requests lead on from such labels alone; where the last leads may be any
abbrev pub PassBy : (Label → Request → Label) → (Label → Type 0) → Label → List Request → Type 0
PassBy go Open l [] = Unit {0}
PassBy go Open l (r ∷ rs) = Open l × PassBy go Open (go l r) rs

-- requests that can be asked, and lead on from such labels alone
pub record AreTold (go : Label → Request → Label) (Open : Label → Type 0) (from : Label) (rs : List Request) : Type 0 where
  pub asked : All IsAskable rs
  pub pass : PassBy go Open from rs

-- the requests are such, and lead so to the label; no shorter list of such requests does
pub record IsShortest (go : Label → Request → Label) (Open : Label → Type 0) (from : Label) (a : Arrival) (way : List Request) : Type 0 where
  pub told : AreTold go Open from way
  pub leads : led_by go from way ≡ a.label
  pub long : length way ≡ a.length
  pub shortest : (rs : List Request) → AreTold go Open from rs → led_by go from rs ≡ a.label → a.length ≤ length rs

-- an arrival for each label to which a list of such requests leads so, each with a shortest such list, and none twice; those with
-- shorter lists first
pub record AreArrivals (go : Label → Request → Label) (Open : Label → Type 0) (from : Label) (arrivals : List Arrival) : Type 0 where
  pub ways : List (List Request)
  pub are : AreWays arrivals ways
  pub each : (i : ℕ) (a : Arrival) → slice_get arrivals i ≡ Some a → IsShortest go Open from a (way_at ways i)
  pub all : (rs : List Request) → AreTold go Open from rs → (i : ℕ) × (a : Arrival) × (slice_get arrivals i ≡ Some a) × (a.label ≡ led_by go from rs)
  pub once : (i j : ℕ) (a b : Arrival) → slice_get arrivals i ≡ Some a → slice_get arrivals j ≡ Some b → a.label ≡ b.label → i ≡ j
  pub rising : (i j : ℕ) (a b : Arrival) → slice_get arrivals i ≡ Some a → slice_get arrivals j ≡ Some b → i ≤ j → a.length ≤ b.length

-- it isn't told where requests lead on from that arrival: the patterns at its label are too many, or need too many states
pub record IsUntold (clean : Bool) (ps : List Policy) (limit : ℕ) (arrivals : List Arrival) (u : Untold) : Type 0 where
  pub arrival : Arrival
  pub there : slice_get arrivals u.number ≡ Some arrival
  pub label : arrival.label ≡ u.label
  pub why : IsWhyFor clean ps limit u.label u.why

-- so it is of these, in the order of the arrivals; from each other the patterns aren't too many
pub record AreUntoldFor (clean : Bool) (ps : List Policy) (limit : ℕ) (arrivals : List Arrival) (untold : List Untold) : Type 0 where
  pub each : (u : Untold) → Contains untold u → IsUntold clean ps limit arrivals u
  pub few : (i : ℕ) (a : Arrival) → slice_get arrivals i ≡ Some a → IsOpen untold a.label → HaveManyPatternsAt ps a.label → ⊥
  pub rising : (i j : ℕ) (u v : Untold) → slice_get untold i ≡ Some u → slice_get untold j ≡ Some v → i < j → u.number < v.number

-- where all paths count
abbrev pub AreUntold : List Policy → ℕ → List Arrival → List Untold → Type 0
AreUntold ps limit arrivals untold = AreUntoldFor false ps limit arrivals untold

-- at most one request that can be asked leads so to the label
pub record IsNear (go : Label → Request → Label) (from : Label) (a : Arrival) (way : List Request) : Type 0 where
  pub asked : All IsAskable way
  pub leads : led_by go from way ≡ a.label
  pub short : length way ≤ 1

-- an arrival for each label to which one request that can be asked leads so, none twice, each with such a request, before which none comes
-- that leads there
pub record AreNear (go : Label → Request → Label) (from : Label) (arrivals : List Arrival) : Type 0 where
  pub ways : List (List Request)
  pub are : AreWays arrivals ways
  pub each : (i : ℕ) (a : Arrival) → slice_get arrivals i ≡ Some a → IsNear go from a (way_at ways i)
  pub all : (r : Request) → IsAskable r → (i : ℕ) × (a : Arrival) × (slice_get arrivals i ≡ Some a) × (a.label ≡ go from r)
  pub shortest : (i : ℕ) (a : Arrival) (step : Step) → slice_get arrivals i ≡ Some a → a.step ≡ Some step
      → (r : Request) → IsAskable r → go from r ≡ a.label → IsNoLater step.request r
  pub once : (i j : ℕ) (a b : Arrival) → slice_get arrivals i ≡ Some a → slice_get arrivals j ≡ Some b → a.label ≡ b.label → i ≡ j
