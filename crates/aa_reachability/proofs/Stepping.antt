-- One arrival more.
use Rattle.std.proofs.Common.{◌≡◌, ℕ, ◌+◌, ◌<◌, ◌≤◌, List, [], ◌∷◌, ◌++◌, Bool, true, false, not}
use Rattle.std.proofs.Common.{cond, Option, Some, None, length}
use Rattle.std.proofs.Common.{refl, sym, ap, ◌∙◌, subst, arith, ⊎_elim}
use Rattle.std.specs.Prelude.{nat_eq}
use Rattle.std.specs.List.{IsDistinct, list_any}
use Rattle.std.proofs.lemmas.Bool.{cases_lt, eqb-true}
use Rattle.std.proofs.lemmas.List.{length_push, length-map, get_or-map, get_or_append_left, get_or_push, map-append}
use Rattle.std.proofs.lemmas.List.Elements.{All-push, All-nil}
use Rattle.indexmap.proofs.CallerLemmas.{Contains-list_any}
use Rattle.aa_model.specs.declared.label.Label.{Label}
use Rattle.aa_model.specs.declared.label.Label.TheVariants.{Unconfined, Confined}
use Rattle.aa_model.specs.declared.request.Request.{Request}
use Rattle.aa_representatives.specs.Askable.{IsAskable}
use Rattle.aa_reachability.specs.declared.trail.Step.{Step}
use Rattle.aa_reachability.specs.declared.trail.Arrival.{Arrival}
use Rattle.aa_reachability.specs.Codes.{code, IsFit, most_labels}
use Rattle.aa_reachability.specs.Reach.{IsWay, led_by, way_at}
use Rattle.aa_reachability.specs.Trail.{no_arrival, arrival_at, codes_of, IsLed, IsTrail, IsLevel, IsStepFrom, Extends, IsWithin}

-- one request more leads on from where those before it lead
pub led_more : (go : Label → Request → Label) (l : Label) (rs : List Request) (r : Request) → led_by go l (rs ++ r ∷ []) ≡ go (led_by go l rs) r
led_more go l [] r = refl
led_more go l (q ∷ rs) r = led_more go (go l q) rs r

pub arrival_old : (arrivals more : List Arrival) (i : ℕ) → i < length arrivals → arrival_at (arrivals ++ more) i ≡ arrival_at arrivals i
arrival_old arrivals more i lt = get_or_append_left arrivals more no_arrival i lt

-- labels that can be have one number each
pub code_apart : (l m : Label) → IsFit l → IsFit m → code l ≡ code m → l ≡ m
code_apart (Unconfined k) (Unconfined j) f go e = ap Unconfined e
code_apart (Unconfined k) (Confined j m) f go e = absurd (omega (arith, f, e))
code_apart (Confined k n) (Unconfined j) f go e = absurd (omega (arith, go, e))
code_apart (Confined k n) (Confined j m) f go e =
    let same : k ≡ j = omega (arith, f.0, f.1, go.0, go.1, e) in
    let other : n ≡ m = omega (arith, f.0, f.1, go.0, go.1, e) in
    ap (λ x. Confined x n) same ∙ ap (Confined j) other

pub below_most : (l : Label) → IsFit l → code l < most_labels
below_most (Unconfined k) f = omega (arith, f)
below_most (Confined k n) f = omega (arith, f.0, f.1)

-- an old way is one still, where ways are added
way_on : (i : ℕ) (step : Option Step) (ways more : List (List Request)) (way : List Request) → i ≤ length ways → IsWay i step ways way
    → IsWay i step (ways ++ more) way
way_on i None ways more way le is = is
way_on i (Some step) ways more way le is =
    let lt : step.from < length ways = omega (arith, is.0, le) in
    (is.0, is.1 ∙ ap (λ rs. rs ++ step.request ∷ []) (sym (get_or_append_left ways more [] step.from lt)))

led_on : (go : Label → Request → Label) (from : Label) (ways more : List (List Request)) (i : ℕ) (a b : Arrival) (way now : List Request) → i ≤ length ways
    → a ≡ b → way ≡ now
    → IsLed go from ways i a way → IsLed go from (ways ++ more) i b now
led_on go from ways more i a b way now le e f is =
    subst (λ x. IsLed go from (ways ++ more) i b x) f (subst (λ x. IsLed go from (ways ++ more) i x way) e
    (record {
      is_way = way_on i a.step ways more way le is.is_way;
      asked = is.asked;
      leads = is.leads;
      long = is.long;
      short = is.short;
      fits = is.fits;
    }))

-- from arrival k by one request
module _ (go : Label → Request → Label) (from : Label) (known : List ℕ) (arrivals : List Arrival) (trail : IsTrail go from known arrivals) (k : ℕ)
    (r : Request) (l : Label)
    (lt : k < length arrivals) (level : IsLevel arrivals k) (asked : IsAskable r) (is : l ≡ go (arrival_at arrivals k).label r)
    (fits : IsFit l) (long : ℕ) (long_is : long ≡ (arrival_at arrivals k).length + 1) where
  abbrev new : Arrival
  new = record { label = l; length = long; step = Some (record { from = k; request = r }) }

  abbrev more : List Arrival
  more = arrivals ++ new ∷ []

  abbrev way : List Request
  way = way_at trail.ways k ++ r ∷ []

  abbrev ways : List (List Request)
  ways = trail.ways ++ way ∷ []

  many : length arrivals ≤ length trail.ways
  many = omega (arith, trail.many)

  arrival_new : arrival_at more (length arrivals) ≡ new
  arrival_new = get_or_push arrivals new no_arrival (length arrivals) refl

  way_new : way_at ways (length arrivals) ≡ way
  way_new = get_or_push trail.ways way [] (length arrivals) trail.many

  fresh : IsLed go from ways (length arrivals) new way
  fresh =
      let at = trail.each k lt in
      record {
        is_way = (lt, ap (λ rs. rs ++ r ∷ []) (sym (get_or_append_left trail.ways (way ∷ []) [] k (omega (arith, lt, many)))));
        asked = All-push IsAskable (way_at trail.ways k) r at.asked asked;
        leads = led_more go from (way_at trail.ways k) r ∙ ap (λ (m : Label). go m r) at.leads ∙ sym is;
        long = length_push (way_at trail.ways k) r ∙ ap (λ n. n + 1) at.long ∙ sym long_is;
        short = omega (arith, at.short, lt, long_is);
        fits = fits;
      }

  each : (i : ℕ) → i < length more → IsLed go from ways i (arrival_at more i) (way_at ways i)
  each i l =
      ⊎_elim
      (λ (old : i < length arrivals).
      led_on go from trail.ways (way ∷ []) i (arrival_at arrivals i) (arrival_at more i) (way_at trail.ways i) (way_at ways i) (omega (arith, old, many))
      (sym (arrival_old arrivals (new ∷ []) i old)) (sym (get_or_append_left trail.ways (way ∷ []) [] i (omega (arith, old, many)))) (trail.each i old))
      (λ (late : length arrivals ≤ i).
      let e : length arrivals ≡ i = omega (arith, late, l, length_push arrivals new) in
      subst (λ n. IsLed go from ways n (arrival_at more n) (way_at ways n)) e
      (subst (λ x. IsLed go from ways (length arrivals) x (way_at ways (length arrivals))) (sym arrival_new)
      (subst (IsLed go from ways (length arrivals) new) (sym way_new) fresh)))
      (cases_lt i (length arrivals))

  length_old : (i : ℕ) → i < length arrivals → (arrival_at more i).length ≡ (arrival_at arrivals i).length
  length_old i l = ap (λ (x : Arrival). x.length) (arrival_old arrivals (new ∷ []) i l)

  length_at : (i : ℕ) → length arrivals ≤ i → i < length more → (arrival_at more i).length ≡ long
  length_at i late l =
      let e : length arrivals ≡ i = omega (arith, late, l, length_push arrivals new) in
      subst (λ n. (arrival_at more n).length ≡ long) e (ap (λ (x : Arrival). x.length) arrival_new)

  rising : (i j : ℕ) → i ≤ j → j < length more → (arrival_at more i).length ≤ (arrival_at more j).length
  rising i j le l =
      ⊎_elim
      (λ (a : j < length arrivals). omega (arith, length_old i (omega (arith, le, a)), length_old j a, trail.rising i j le a))
      (λ (a : length arrivals ≤ j).
      ⊎_elim
      (λ (c : i < length arrivals). omega (arith, length_old i c, length_at j a l, level lt i c, long_is))
      (λ (c : length arrivals ≤ i). omega (arith, length_at i c (omega (arith, le, l)), length_at j a l))
      (cases_lt i (length arrivals)))
      (cases_lt j (length arrivals))

  pub trail_more : (now : List ℕ) → now ≡ known ++ code l ∷ [] → IsDistinct nat_eq now → IsTrail go from now more
  trail_more now e distinct = record {
    ways = ways;
    many = length_push trail.ways way ∙ ap (λ n. n + 1) trail.many ∙ sym (length_push arrivals new);
    some = omega (arith, length_push arrivals new);
    start = ap (λ (x : Arrival). x.label) (arrival_old arrivals (new ∷ []) 0 trail.some) ∙ trail.start;
    each = each;
    codes = e ∙ ap (λ xs. xs ++ code l ∷ []) trail.codes ∙ sym (map-append (λ (a : Arrival). code a.label) arrivals (new ∷ []));
    distinct = distinct;
    rising = rising;
  }

  pub level_more : IsLevel more k
  level_more here j lj =
      ⊎_elim
      (λ (a : j < length arrivals). omega (arith, length_old j a, length_old k lt, level lt j a))
      (λ (a : length arrivals ≤ j). omega (arith, length_at j a lj, length_old k lt, long_is))
      (cases_lt j (length arrivals))

  pub extends_more : Extends k arrivals more
  extends_more = record {
    more = new ∷ [];
    are = refl;
    from = λ i late l.
        let e : length arrivals ≡ i = omega (arith, late, l, length_push arrivals new) in
        subst (λ n. IsStepFrom k (arrival_at more n).step) e (subst (λ (x : Arrival). IsStepFrom k x.step) (sym arrival_new) refl);
  }

  pub reached_more : IsWithin more l ((arrival_at arrivals k).length + 1)
  reached_more = (
    length arrivals,
    omega (arith, length_push arrivals new),
    ap (λ (x : Arrival). x.label) arrival_new,
    omega (arith, ap (λ (x : Arrival). x.length) arrival_new, long_is),
  )

-- a number that is known is that of an arrival's label
known_at : (arrivals : List Arrival) (n : ℕ) → list_any (nat_eq n) (codes_of arrivals) ≡ true
    → (j : ℕ) × (j < length arrivals) × (code (arrival_at arrivals j).label ≡ n)
known_at arrivals n e =
    let f : Arrival → ℕ = λ a. code a.label in
    let c = Contains-list_any nat_eq eqb-true (codes_of arrivals) n e in
    let lt : c.0 < length arrivals = omega (arith, c.1, length-map arrivals f) in
    (c.0, lt, sym (get_or-map f arrivals c.0 no_arrival n lt) ∙ c.2)

-- where the number is known, the label is that of an arrival
pub reached_known : (go : Label → Request → Label) (from : Label) (known : List ℕ) (arrivals : List Arrival) → IsTrail go from known arrivals → (k : ℕ) (l : Label)
    → k < length arrivals → IsLevel arrivals k → IsFit l → list_any (nat_eq (code l)) known ≡ true
    → IsWithin arrivals l ((arrival_at arrivals k).length + 1)
reached_known go from known arrivals trail k l lt level fits e =
    let f = known_at arrivals (code l) (ap (list_any (nat_eq (code l))) (sym trail.codes) ∙ e) in
    (f.0, f.1, code_apart (arrival_at arrivals f.0).label l (trail.each f.0 f.1).fits fits f.2, level lt f.0 f.1)

-- the first arrival
pub first_trail : (go : Label → Request → Label) (from : Label) (known : List ℕ) (a : Arrival) → IsFit from → a ≡ record { label = from; length = 0; step = None }
    → known ≡ code from ∷ [] → IsDistinct nat_eq known → IsTrail go from known (a ∷ [])
first_trail go from known a fits is e distinct = record {
  ways = [] ∷ [];
  many = refl;
  some = omega arith;
  start = ap (λ (x : Arrival). x.label) is;
  each = λ i l.
      let z : 0 ≡ i = omega (arith, l) in
      subst (λ n. IsLed go from ([] ∷ []) n (arrival_at (a ∷ []) n) (way_at ([] ∷ []) n)) z
      (subst (λ (x : Arrival). IsLed go from ([] ∷ []) 0 x []) (sym is)
      (record { is_way = refl; asked = All-nil IsAskable; leads = refl; long = refl; short = omega arith; fits = fits }));
  codes = e ∙ ap (λ (x : Arrival). code x.label ∷ []) (sym is);
  distinct = distinct;
  rising = λ i j le l.
      let z : i ≡ j = omega (arith, le, l) in
      subst (λ n. (arrival_at (a ∷ []) i).length ≤ (arrival_at (a ∷ []) n).length) z (omega arith);
}

pub is_known : (b x : Bool) → x ≡ not b → x ≡ false → b ≡ true
is_known true x e f = refl
is_known false x e f = absurd (cc (e, f))

-- a number that is new is added last
pub added_keys : (known now : List ℕ) (n : ℕ) (x : Bool) → x ≡ not (list_any (nat_eq n) known) → x ≡ true
    → now ≡ cond (list_any (nat_eq n) known) known (known ++ n ∷ []) → now ≡ known ++ n ∷ []
added_keys known now n x e f is = at (list_any (nat_eq n) known) e is
  where
    at : (b : Bool) → x ≡ not b → now ≡ cond b known (known ++ n ∷ []) → now ≡ known ++ n ∷ []
    at true e is = absurd (cc (e, f))
    at false e is = is
