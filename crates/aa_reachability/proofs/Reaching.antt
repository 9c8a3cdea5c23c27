-- Arrivals that are added behind others, and which there are.
use Rattle.std.proofs.Common.{◌≡◌, ℕ, zero, suc, ◌+◌, ◌<◌, ◌≤◌, List, [], ◌∷◌, ◌++◌, Option, None, true}
use Rattle.std.proofs.Common.{length, All, Contains, sym, ap, ◌∙◌, subst, arith}
use Rattle.std.proofs.Common.{get_or, Some, ⊎_elim, append_assoc, append-nil}
use Rattle.std.specs.Prelude.{nat_eq}
use Rattle.std.specs.List.{slice_get, list_any}
use Rattle.std.proofs.lemmas.Bool.{cases_lt}
use Rattle.std.proofs.lemmas.List.{length-append, length-map, get_or-map}
use Rattle.std.proofs.lemmas.List.Elements.{All-head, All-tail}
use Rattle.std.proofs.lemmas.Map.Steps.{length-le_from_distinct_below}
use Rattle.std.proofs.lemmas.Map.Keys.{apart_from_distinct}
use Rattle.std.proofs.lemmas.Option.{slice_get_within, slice_get-get_or, get_or_from_slice_get}
use Rattle.std.proofs.lemmas.Bool.{eqb-true, eq-eqb}
use Rattle.indexmap.proofs.CallerLemmas.{Contains-list_any}
use Rattle.aa_model.specs.declared.label.Label.{Label}
use Rattle.aa_model.specs.declared.request.Request.{Request}
use Rattle.aa_representatives.specs.Askable.{IsAskable}
use Rattle.aa_reachability.specs.declared.trail.Step.{Step}
use Rattle.aa_reachability.specs.declared.trail.Arrival.{Arrival}
use Rattle.aa_reachability.specs.Codes.{code, most_labels}
use Rattle.aa_reachability.specs.Order.{IsNoLater}
use Rattle.aa_reachability.specs.Beside.{LeadAllOn, HoldAlong, AreNearBeside}
use Rattle.aa_reachability.specs.Reach.{IsWay, AreWays, IsNear, led_by, way_at}
use Rattle.aa_reachability.specs.Trail.{no_arrival, arrival_at, IsTrail, IsLevel, IsWithin, AreFollowedBy, IsStepFrom, Extends}
use Rattle.aa_reachability.proofs.Stepping.{led_more, arrival_old, below_most}

pub extends_none : (n : ℕ) (arrivals : List Arrival) → Extends n arrivals arrivals
extends_none n arrivals = record { more = []; are = sym (append-nil arrivals); from = λ i late lt. absurd (omega (arith, late, lt)) }

pub extends_length : {n : ℕ} (a b : List Arrival) → Extends n a b → length a ≤ length b
extends_length a b f = omega (arith, ap length f.are, length-append a f.more)

-- an old arrival is where it was
pub extends_at : {n : ℕ} (a b : List Arrival) → Extends n a b → (i : ℕ) → i < length a → arrival_at b i ≡ arrival_at a i
extends_at a b f i lt = ap (λ l. arrival_at l i) f.are ∙ arrival_old a f.more i lt

pub extends_on : (n : ℕ) (a b c : List Arrival) → Extends n a b → Extends n b c → Extends n a c
extends_on n a b c f go = record {
  more = f.more ++ go.more;
  are = go.are ∙ ap (λ l. l ++ go.more) f.are ∙ append_assoc a f.more go.more;
  from = λ i late lt.
      ⊎_elim
      (λ (x : i < length b). subst (λ (y : Arrival). IsStepFrom n y.step) (sym (extends_at b c go i x)) (f.from i late x))
      (λ (x : length b ≤ i). go.from i x lt)
      (cases_lt i (length b));
}

pub within_on : {n : ℕ} (a b : List Arrival) → Extends n a b → (l : Label) (m : ℕ) → IsWithin a l m → IsWithin b l m
within_on a b f l m w = (
  w.0,
  omega (arith, w.1, extends_length a b f),
  ap (λ (x : Arrival). x.label) (extends_at a b f w.0 w.1) ∙ w.2,
  subst (λ (x : Arrival). x.length ≤ m) (sym (extends_at a b f w.0 w.1)) w.3,
)

pub followed_on : {n : ℕ} (go : Label → Request → Label) (a b : List Arrival) → Extends n a b → (k : ℕ) → k < length a → (Among : Request → Type 0)
    → AreFollowedBy go a k Among
    → AreFollowedBy go b k Among
followed_on go a b f k lt Among is r among =
    subst (λ (x : Arrival). IsWithin b (go x.label r) (x.length + 1)) (sym (extends_at a b f k lt))
    (within_on a b f (go (arrival_at a k).label r) ((arrival_at a k).length + 1) (is r among))

-- the next arrival is level where one is
pub level_next : (arrivals : List Arrival) (n : ℕ)
    → ((i j : ℕ) → i ≤ j → j < length arrivals → (arrival_at arrivals i).length ≤ (arrival_at arrivals j).length)
    → IsLevel arrivals n → IsLevel arrivals (n + 1)
level_next arrivals n rising level lt j lj =
    let a : n < length arrivals = omega (arith, lt) in
    let b : n ≤ n + 1 = omega arith in
    omega (arith, level a j lj, rising n (n + 1) b lt)

-- where requests lead to all labels and each of them is followed, all are
pub followed_all : (go : Label → Request → Label) (arrivals : List Arrival) (k : ℕ) (rs : List Request) → k < length arrivals
    → LeadAllOn go (arrival_at arrivals k).label rs
    → AreFollowedBy go arrivals k (Contains rs) → AreFollowedBy go arrivals k IsAskable
followed_all go arrivals k rs lt lead each r asked =
    let l = (arrival_at arrivals k).label in
    let many = (arrival_at arrivals k).length + 1 in
    ⊎_elim
    (λ (stays : go l r ≡ l). (k, lt, sym stays, omega arith))
    (λ (found : (q : Request) × Contains rs q × (go l r ≡ go l q) × IsNoLater q r).
    subst (λ (m : Label). IsWithin arrivals m many) (sym found.2) (each found.0 found.1))
    (lead.all r asked)

-- different labels have different numbers, and so there are no more arrivals than numbers
pub few_arrivals : (go : Label → Request → Label) (from : Label) (known : List ℕ) (arrivals : List Arrival) → IsTrail go from known arrivals
    → length arrivals ≤ most_labels
few_arrivals go from known arrivals trail =
    let f : Arrival → ℕ = λ a. code a.label in
    let long : length known ≡ length arrivals = ap length trail.codes ∙ length-map arrivals f in
    let below : (q : ℕ) → list_any (nat_eq q) known ≡ true → q < most_labels = λ q e.
    let c = Contains-list_any nat_eq eqb-true known q e in
    let lt : c.0 < length arrivals = omega (arith, c.1, long) in
    let is : f (arrival_at arrivals c.0) ≡ q = sym (get_or-map f arrivals c.0 no_arrival q lt) ∙ sym (ap (λ xs. get_or xs c.0 q) trail.codes) ∙ c.2 in
    subst (λ x. x < most_labels) is (below_most (arrival_at arrivals c.0).label (trail.each c.0 lt).fits) in
    omega (arith, long, length-le_from_distinct_below known most_labels trail.distinct below)

module _ (go : Label → Request → Label) (from : Label) (known : List ℕ) (arrivals : List Arrival) (trail : IsTrail go from known arrivals) where
  abbrev codes : Arrival → ℕ
  codes a = code a.label

  code_at : (i d : ℕ) → i < length arrivals → get_or known i d ≡ code (arrival_at arrivals i).label
  code_at i d lt = ap (λ xs. get_or xs i d) trail.codes ∙ get_or-map codes arrivals i no_arrival d lt

  long : length known ≡ length arrivals
  long = ap length trail.codes ∙ length-map arrivals codes

  -- of two arrivals the later one is at another label
  apart : (i j : ℕ) → i < j → j < length arrivals → (arrival_at arrivals i).label ≡ (arrival_at arrivals j).label → ⊥
  apart i j lt lj e =
      let li : i < length arrivals = omega (arith, lt, lj) in
      let is : get_or known i 0 ≡ get_or known j 0 = code_at i 0 li ∙ ap code e ∙ sym (code_at j 0 lj) in
      let differ = apart_from_distinct nat_eq known i j 0 trail.distinct lt (omega (arith, lj, long)) in
      absurd (cc (eq-eqb (get_or known i 0) (get_or known j 0) is, differ))

  pub same : (i j : ℕ) → i < length arrivals → j < length arrivals → (arrival_at arrivals i).label ≡ (arrival_at arrivals j).label → i ≡ j
  same i j li lj e =
      ⊎_elim
      (λ (a : i < j). absurd (apart i j a lj e))
      (λ (a : j ≤ i).
      ⊎_elim
      (λ (b : j < i). absurd (apart j i b li (sym e)))
      (λ (b : i ≤ j). let is : i ≡ j = omega (arith, a, b) in is)
      (cases_lt j i))
      (cases_lt i j)

  pub here : (i : ℕ) (a : Arrival) → slice_get arrivals i ≡ Some a → (i < length arrivals) × (arrival_at arrivals i ≡ a)
  here i a e = (slice_get_within arrivals i a e, get_or_from_slice_get arrivals i a no_arrival e)

-- requests of which something holds, and one more
hold_more : (go : Label → Request → Label) (Holds : Label → Request → Type 0) (l : Label) (rs : List Request) (r : Request) → HoldAlong go Holds l rs
    → Holds (led_by go l rs) r → HoldAlong go Holds l (rs ++ r ∷ [])
hold_more go Holds l [] r all one = (one, tt)
hold_more go Holds l (q ∷ rs) r all one = (all.0, hold_more go Holds (go l q) rs r all.1 one)

-- what holds of each request that leads to another label holds along each list of requests that is kept
module _ (go : Label → Request → Label) (Holds : Label → Request → Type 0) (from : Label) (known : List ℕ) (arrivals : List Arrival)
    (trail : IsTrail go from known arrivals) (holds : (l : Label) (r : Request) → (go l r ≡ l → ⊥) → Holds l r) where
  abbrev Keeps : List Request → Type 0
  Keeps rs = HoldAlong go Holds from rs

  -- a step leads to another label, since all are different
  step_holds : (i : ℕ) (s : Step) (way : List Request) → i < length arrivals → s.from < i → way ≡ way_at trail.ways s.from ++ s.request ∷ []
      → led_by go from way ≡ (arrival_at arrivals i).label → Holds (led_by go from (way_at trail.ways s.from)) s.request
  step_holds i s way lt less is leads =
      let lj : s.from < length arrivals = omega (arith, less, lt) in
      let at = (trail.each s.from lj).leads in
      holds (led_by go from (way_at trail.ways s.from)) s.request
      (λ stays.
      let e : (arrival_at arrivals i).label ≡ (arrival_at arrivals s.from).label =
      sym leads ∙ ap (led_by go from) is ∙ led_more go from (way_at trail.ways s.from) s.request ∙ stays ∙ at in
      absurd (omega (arith, less, same go from known arrivals trail i s.from lt lj e)))

  keep_by_step : (i : ℕ) (o : Option Step) (way : List Request) → i < length arrivals → IsWay i o trail.ways way
      → led_by go from way ≡ (arrival_at arrivals i).label
      → ((k : ℕ) → k < i → Keeps (way_at trail.ways k)) → Keeps way
  keep_by_step i None way lt is leads earlier = subst Keeps (sym is) tt
  keep_by_step i (Some s) way lt is leads earlier =
      subst Keeps (sym is.1)
      (hold_more go Holds from (way_at trail.ways s.from) s.request (earlier s.from is.0) (step_holds i s way lt is.0 is.1 leads))

  keep_below : (m i : ℕ) → i < m → i < length arrivals → Keeps (way_at trail.ways i)
  keep_below zero i lt li = absurd (omega (arith, lt))
  keep_below (suc m) i lt li =
      keep_by_step i (arrival_at arrivals i).step (way_at trail.ways i) li (trail.each i li).is_way (trail.each i li).leads
      (λ k below. keep_below m k (omega (arith, below, lt)) (omega (arith, below, li)))

  pub keeps : (i : ℕ) → i < length arrivals → Keeps (way_at trail.ways i)
  keeps i li = keep_below (i + 1) i (omega arith) li

module _ (go : Label → Request → Label) (from : Label) (known : List ℕ) (arrivals : List Arrival) (trail : IsTrail go from known arrivals) where
  pub once : (i j : ℕ) (a b : Arrival) → slice_get arrivals i ≡ Some a → slice_get arrivals j ≡ Some b → a.label ≡ b.label → i ≡ j
  once i j a b e f is =
      let h = here go from known arrivals trail i a e in
      let k = here go from known arrivals trail j b f in
      same go from known arrivals trail i j h.0 k.0 (ap (λ (x : Arrival). x.label) h.1 ∙ is ∙ sym (ap (λ (x : Arrival). x.label) k.1))

  pub are_ways : AreWays arrivals trail.ways
  are_ways = record {
    many = trail.many;
    each = λ i a e.
        let h = here go from known arrivals trail i a e in
        subst (λ (x : Arrival). IsWay i x.step trail.ways (way_at trail.ways i)) h.1 (trail.each i h.0).is_way;
  }

  -- where the first arrival is followed, those beside it are near
  pub are_near : (Sure : Label → Type 0) (Holds : Label → Request → Type 0) → ((l : Label) (r : Request) → (go l r ≡ l → ⊥) → Holds l r) → IsLevel arrivals 0
      → (Sure from → AreFollowedBy go arrivals 0 IsAskable)
      → (Sure from → (i : ℕ) (a : Arrival) (step : Step) → slice_get arrivals i ≡ Some a → a.step ≡ Some step → (r : Request) → IsAskable r
      → go from r ≡ a.label → IsNoLater step.request r)
      → AreNearBeside go Sure Holds from arrivals
  are_near Sure Holds holds level followed shortest = record {
    ways = trail.ways;
    are = are_ways;
    first = (arrival_at arrivals 0, slice_get-get_or arrivals 0 no_arrival trail.some, trail.start);
    each = λ i a e.
        let h = here go from known arrivals trail i a e in
        let led = trail.each i h.0 in
        let first : (arrival_at arrivals 0).length ≤ 0 = (trail.each 0 trail.some).short in
        subst (λ (x : Arrival). IsNear go from x (way_at trail.ways i)) h.1
        (record { asked = led.asked; leads = led.leads; short = omega (arith, led.long, level trail.some i h.0, first) });
    kept = λ i a e. keeps go Holds from known arrivals trail holds i (here go from known arrivals trail i a e).0;
    all = λ sure r asked.
        let w = followed sure r asked in
        (w.0, arrival_at arrivals w.0, slice_get-get_or arrivals w.0 no_arrival w.1, w.2 ∙ ap (λ (l : Label). go l r) trail.start);
    shortest = shortest;
    once = once;
  }
