-- The search, on its way: arrivals, shorter lists of requests first.
-- Source: breadth-first search; own.
use Rattle.std.specs.Prelude.{◌≡◌, ◌+◌, ◌<◌, ◌≤◌, ◌++◌, ℕ, List, Bool, Option, Some, None, All, Contains, length, map, nat_eq, slice_index_or}
use Rattle.std.specs.List.{IsDistinct}
use Rattle.aa_model.specs.declared.policy.Policy.{Policy}
use Rattle.aa_model.specs.declared.label.Label.{Label}
use Rattle.aa_model.specs.declared.label.Label.TheVariants.{Unconfined}
use Rattle.aa_model.specs.declared.request.Request.{Request}
use Rattle.aa_representatives.specs.Askable.{IsAskable}
use Rattle.aa_reachability.specs.declared.trail.Step.{Step}
use Rattle.aa_reachability.specs.declared.trail.Arrival.{Arrival}
use Rattle.aa_reachability.specs.declared.reached.Untold.{Untold}
use Rattle.aa_reachability.specs.declared.reached.Why.TheVariants.{TooManyPatterns}
use Rattle.aa_reachability.specs.Codes.{code, IsFit}
use Rattle.aa_reachability.specs.Moves.{HaveManyPatternsAt, IsWhyFor}
use Rattle.aa_reachability.specs.Reach.{IsWay, AreTold, led_by, way_at}

-- an arrival that stands for none
abbrev pub no_arrival : Arrival
no_arrival = record { label = Unconfined 0; length = 0; step = None }

-- the arrival with that number
abbrev pub arrival_at : List Arrival → ℕ → Arrival
arrival_at arrivals i = slice_index_or arrivals i no_arrival

-- the numbers of the arrivals' labels
abbrev pub codes_of : List Arrival → List ℕ
codes_of arrivals = map (λ (a : Arrival). code a.label) arrivals

-- arrival i, with the requests that lead there: they can be asked, and are as many as is told, and no more than i
pub record IsLed (go : Label → Request → Label) (from : Label) (ways : List (List Request)) (i : ℕ) (a : Arrival) (way : List Request) : Type 0 where
  pub is_way : IsWay i a.step ways way
  pub asked : All IsAskable way
  pub leads : led_by go from way ≡ a.label
  pub long : length way ≡ a.length
  pub short : a.length ≤ i
  pub fits : IsFit a.label

-- each arrival is led to, at different labels, of which the numbers are known; a later one by no fewer requests
pub record IsTrail (go : Label → Request → Label) (from : Label) (known : List ℕ) (arrivals : List Arrival) : Type 0 where
  pub ways : List (List Request)
  pub many : length ways ≡ length arrivals
  pub some : 0 < length arrivals
  pub start : (arrival_at arrivals 0).label ≡ from
  pub each : (i : ℕ) → i < length arrivals → IsLed go from ways i (arrival_at arrivals i) (way_at ways i)
  pub codes : known ≡ codes_of arrivals
  pub distinct : IsDistinct nat_eq known
  pub rising : (i j : ℕ) → i ≤ j → j < length arrivals → (arrival_at arrivals i).length ≤ (arrival_at arrivals j).length

-- no arrival takes more than a request more than arrival n, if there is that one
abbrev pub IsLevel : List Arrival → ℕ → Type 0
IsLevel arrivals n = n < length arrivals → (j : ℕ) → j < length arrivals → (arrival_at arrivals j).length ≤ (arrival_at arrivals n).length + 1

-- the step goes on from arrival n
abbrev pub IsStepFrom : ℕ → Option Step → Type 0
IsStepFrom n None = ⊥
IsStepFrom n (Some step) = step.from ≡ n

-- arrivals are added behind, each by a request from arrival n
pub record Extends (n : ℕ) (old arrivals : List Arrival) : Type 0 where
  pub more : List Arrival
  pub are : arrivals ≡ old ++ more
  pub from : (i : ℕ) → length old ≤ i → i < length arrivals → IsStepFrom n (arrival_at arrivals i).step

-- one of the arrivals has the label, by at most n requests
abbrev pub IsWithin : List Arrival → Label → ℕ → Type 0
IsWithin arrivals l n = (j : ℕ) × (j < length arrivals) × ((arrival_at arrivals j).label ≡ l) × ((arrival_at arrivals j).length ≤ n)

-- where each of these requests leads to from arrival k there is an arrival, by no more requests
abbrev pub AreFollowedBy : (Label → Request → Label) → List Arrival → ℕ → (Request → Type 0) → Type 0
AreFollowedBy go arrivals k Among = (r : Request) → Among r
    → IsWithin arrivals (go (arrival_at arrivals k).label r) ((arrival_at arrivals k).length + 1)

-- arrival k is none from which it isn't told where requests lead on
abbrev pub IsFollowed : List Untold → ℕ → Type 0
IsFollowed untold k = (u : Untold) → Contains untold u → u.number ≡ k → ⊥

-- the step goes on from one of the first n arrivals that is none such
abbrev pub IsStepBehind : ℕ → List Untold → Option Step → Type 0
IsStepBehind n untold None = Unit {0}
IsStepBehind n untold (Some step) = (step.from < n) × IsFollowed untold step.from

-- from one of the first n arrivals it isn't told where requests lead on
pub record IsUntoldBelow (clean : Bool) (ps : List Policy) (limit : ℕ) (arrivals : List Arrival) (n : ℕ) (u : Untold) : Type 0 where
  pub below : u.number < n
  pub label : (arrival_at arrivals u.number).label ≡ u.label
  pub why : IsWhyFor clean ps limit u.label u.why

-- one that stands for none
abbrev pub no_untold : Untold
no_untold = record { number = 0; label = Unconfined 0; why = TooManyPatterns }

-- the number of the arrival of untold label i
abbrev pub number_at : List Untold → ℕ → ℕ
number_at untold i = (slice_index_or untold i no_untold).number

-- the step is by that request
abbrev pub IsStepBy : Request → Option Step → Type 0
IsStepBy r None = ⊥
IsStepBy r (Some step) = step.request ≡ r

-- so are those of the arrivals behind the first n
abbrev pub AreAddedBy : Request → ℕ → List Arrival → Type 0
AreAddedBy r n arrivals = (i : ℕ) → n ≤ i → i < length arrivals → IsStepBy r (arrival_at arrivals i).step

-- of these requests it is the first that leads from one label to the other
pub record IsFirstTo (go : Label → Request → Label) (l m : Label) (rs : List Request) (r : Request) : Type 0 where
  pub place : ℕ
  pub within : place < length rs
  pub is : slice_index_or rs place r ≡ r
  pub before : (j : ℕ) (q : Request) → j < place → slice_index_or rs j q ≡ q → go l q ≡ m → ⊥

-- so is that of a step
abbrev pub IsFirstStep : (Label → Request → Label) → Label → List Request → Label → Option Step → Type 0
IsFirstStep go l rs m None = ⊥
IsFirstStep go l rs m (Some step) = IsFirstTo go l m rs step.request

-- so are those of the arrivals behind the first n
abbrev pub AreFirst : (Label → Request → Label) → Label → List Request → ℕ → List Arrival → Type 0
AreFirst go l rs n arrivals =
    (i : ℕ) → n ≤ i → i < length arrivals → IsFirstStep go l rs (arrival_at arrivals i).label (arrival_at arrivals i).step

-- the first n arrivals are followed, but for those that are untold; those at labels of that kind by all requests that can be asked
pub record AreFollowed (go : Label → Request → Label) (Sure : Label → Type 0) (clean : Bool) (ps : List Policy) (limit : ℕ) (arrivals : List Arrival) (untold : List Untold)
    (n : ℕ) : Type 0 where
  pub within : n ≤ length arrivals
  pub told : (k : ℕ) → k < n → IsFollowed untold k → Sure (arrival_at arrivals k).label → AreFollowedBy go arrivals k IsAskable
  pub few : (k : ℕ) → k < n → IsFollowed untold k → HaveManyPatternsAt ps (arrival_at arrivals k).label → ⊥
  pub steps : (i : ℕ) → i < length arrivals → IsStepBehind n untold (arrival_at arrivals i).step
  pub each : (u : Untold) → Contains untold u → IsUntoldBelow clean ps limit arrivals n u
  pub rising : (i j : ℕ) → i < j → j < length untold → number_at untold i < number_at untold j

-- each list of requests that can be asked, and that leads on from such labels alone, leads to the label of an arrival, which takes no more
abbrev pub ReachAll : (Label → Request → Label) → (Label → Type 0) → Label → List Arrival → Type 0
ReachAll go Open from arrivals = (rs : List Request) → AreTold go Open from rs → IsWithin arrivals (led_by go from rs) (length rs)
