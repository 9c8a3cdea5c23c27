-- Arrivals that are followed one after another, but for those from which it isn't told where requests lead on.
use Rattle.std.proofs.Common.{◌≡◌, ℕ, zero, suc, ◌+◌, ◌<◌, ◌≤◌, List, [], ◌∷◌, ◌++◌, Bool, Option, Some, None, All, Contains, length}
use Rattle.std.proofs.Common.{refl, sym, ap, ◌∙◌, subst, arith, ⊎_elim}
use Rattle.std.specs.Prelude.{slice_index_or}
use Rattle.std.specs.List.{slice_get}
use Rattle.std.proofs.lemmas.Bool.{cases_lt}
use Rattle.std.proofs.lemmas.List.{length_push, get_or_append_left, get_or_push}
use Rattle.std.proofs.lemmas.List.Elements.{All-head, All-tail, Contains-push, Contains-append_left, Contains-append_cases}
use Rattle.std.proofs.lemmas.Option.{slice_get_within, slice_get-get_or, get_or_from_slice_get}
use Rattle.aa_model.specs.declared.policy.Policy.{Policy}
use Rattle.aa_model.specs.declared.label.Label.{Label}
use Rattle.aa_model.specs.declared.request.Request.{Request}
use Rattle.aa_representatives.specs.Askable.{IsAskable}
use Rattle.aa_reachability.specs.declared.trail.Step.{Step}
use Rattle.aa_reachability.specs.declared.trail.Arrival.{Arrival}
use Rattle.aa_reachability.specs.declared.reached.Untold.{Untold}
use Rattle.aa_reachability.specs.declared.reached.Why.{Why}
use Rattle.aa_reachability.specs.Moves.{HaveManyPatternsAt, IsWhyFor}
use Rattle.aa_reachability.specs.Reach.{IsWay, IsOpen, PassBy, AreTold, AreUntoldFor, led_by, way_at}
use Rattle.aa_reachability.specs.Beside.{IsSure, IsShortestBeside, AreArrivalsBeside}
use Rattle.aa_reachability.specs.Trail.{no_arrival, arrival_at, IsTrail, IsWithin, AreFollowedBy, IsStepFrom, Extends, IsFollowed}
use Rattle.aa_reachability.specs.Trail.{IsStepBehind, IsUntoldBelow, no_untold, number_at, AreFollowed, ReachAll}
use Rattle.aa_reachability.proofs.Reaching.{extends_length, extends_at, followed_on, same, here, once, are_ways, keeps}

first_step : (o : Option Step) (ways : List (List Request)) (way : List Request) → IsWay 0 o ways way → IsStepBehind 0 [] o
first_step None ways way is = tt
first_step (Some s) ways way is = absurd (omega (arith, is.0))

-- where the task begins nothing is followed yet
pub first_followed : (go : Label → Request → Label) (Sure : Label → Type 0) (clean : Bool) (ps : List Policy) (from : Label) (known : List ℕ) (limit : ℕ) (arrivals : List Arrival) (untold : List Untold)
    → IsTrail go from known arrivals
    → length arrivals ≡ 1 → untold ≡ [] → AreFollowed go Sure clean ps limit arrivals untold 0
first_followed go Sure clean ps from known limit arrivals untold trail one none =
    subst (λ (us : List Untold). AreFollowed go Sure clean ps limit arrivals us 0) (sym none)
    (record {
      within = omega arith;
      told = λ k lt f s. absurd (omega (arith, lt));
      few = λ k lt f m. absurd (omega (arith, lt));
      steps = λ i lt.
          let z : 0 ≡ i = omega (arith, lt, one) in
          subst (λ n. IsStepBehind 0 [] (arrival_at arrivals n).step) z
          (first_step (arrival_at arrivals 0).step trail.ways (way_at trail.ways 0) (trail.each 0 trail.some).is_way);
      each = λ u c. absurd (omega (arith, c.1));
      rising = λ i j lt l. absurd (omega (arith, l));
    })

step_on : (n : ℕ) (untold : List Untold) (o : Option Step) → IsStepBehind n untold o → IsStepBehind (n + 1) untold o
step_on n untold None is = tt
step_on n untold (Some s) is = (omega (arith, is.0), is.1)

step_new : (n : ℕ) (untold : List Untold) (o : Option Step) → IsStepFrom n o → IsFollowed untold n → IsStepBehind (n + 1) untold o
step_new n untold None is f = absurd is
step_new n untold (Some s) is f = (omega (arith, is), subst (IsFollowed untold) (sym is) f)

-- one arrival more is followed
pub told_next : (go : Label → Request → Label) (Sure : Label → Type 0) (clean : Bool) (ps : List Policy) (limit : ℕ) (was now : List Arrival) (untold : List Untold) (n : ℕ)
    → Extends n was now → n < length was
    → AreFollowed go Sure clean ps limit was untold n → (Sure (arrival_at was n).label → AreFollowedBy go now n IsAskable)
    → (HaveManyPatternsAt ps (arrival_at was n).label → ⊥) → AreFollowed go Sure clean ps limit now untold (n + 1)
told_next go Sure clean ps limit was now untold n ext lt old followed few =
    let Few : Label → Type 0 = λ l. HaveManyPatternsAt ps l → ⊥ in
    let here : IsFollowed untold n = λ u c e. absurd (omega (arith, (old.each u c).below, e)) in
    record {
      within = omega (arith, lt, extends_length was now ext);
      told = λ k below f sure.
          let at : k < length was = omega (arith, below, lt) in
          let sure_then : Sure (arrival_at was k).label = subst (λ (x : Arrival). Sure x.label) (extends_at was now ext k at) sure in
          ⊎_elim
          (λ (l : k < n). followed_on go was now ext k at IsAskable (old.told k l f sure_then))
          (λ (late : n ≤ k).
          let e : n ≡ k = omega (arith, below, late) in
          subst (λ x. AreFollowedBy go now x IsAskable) e (followed (subst (λ x. Sure (arrival_at was x).label) (sym e) sure_then)))
          (cases_lt k n);
      few = λ k below f.
          let at : k < length was = omega (arith, below, lt) in
          subst (λ (x : Arrival). Few x.label) (sym (extends_at was now ext k at))
          (⊎_elim
          (λ (l : k < n). old.few k l f)
          (λ (late : n ≤ k). let e : n ≡ k = omega (arith, below, late) in subst (λ x. Few (arrival_at was x).label) e few)
          (cases_lt k n));
      steps = λ i li.
          ⊎_elim
          (λ (o : i < length was).
          subst (λ (x : Arrival). IsStepBehind (n + 1) untold x.step) (sym (extends_at was now ext i o))
          (step_on n untold (arrival_at was i).step (old.steps i o)))
          (λ (late : length was ≤ i). step_new n untold (arrival_at now i).step (ext.from i late li) here)
          (cases_lt i (length was));
      each = λ u c.
          let x = old.each u c in
          record {
            below = omega (arith, x.below);
            label = ap (λ (a : Arrival). a.label) (extends_at was now ext u.number (omega (arith, x.below, lt))) ∙ x.label;
            why = x.why;
          };
      rising = old.rising;
    }

-- of the next arrival it isn't told
module _ (go : Label → Request → Label) (Sure : Label → Type 0) (clean : Bool) (ps : List Policy) (limit : ℕ) (arrivals : List Arrival) (untold : List Untold) (n : ℕ)
    (why : Why) (lt : n < length arrivals) (old : AreFollowed go Sure clean ps limit arrivals untold n) (is_why : IsWhyFor clean ps limit (arrival_at arrivals n).label why) where
  abbrev one : Untold
  one = record { number = n; label = (arrival_at arrivals n).label; why = why }

  abbrev more : List Untold
  more = untold ++ one ∷ []

  before : (k : ℕ) → IsFollowed more k → IsFollowed untold k
  before k f u c e = f u (Contains-append_left untold (one ∷ []) u c) e

  earlier : (k : ℕ) → k < n + 1 → IsFollowed more k → k < n
  earlier k below f =
      ⊎_elim
      (λ (l : k < n). l)
      (λ (late : n ≤ k). let e : n ≡ k = omega (arith, below, late) in absurd (f one (Contains-push untold one) e))
      (cases_lt k n)

  is_one : (u : Untold) → Contains (one ∷ []) u → one ≡ u
  is_one u c = let z : c.0 ≡ 0 = omega (arith, c.1) in subst (λ (i : ℕ). slice_index_or (one ∷ []) i u ≡ u) z c.2

  step_past : (o : Option Step) → IsStepBehind n untold o → IsStepBehind (n + 1) more o
  step_past None is = tt
  step_past (Some s) is = (
    omega (arith, is.0),
    λ u c e.
        ⊎_elim
        (λ (x : Contains untold u). is.1 u x e)
        (λ (x : Contains (one ∷ []) u). absurd (omega (arith, is.0, ap (λ (v : Untold). v.number) (is_one u x), e)))
        (Contains-append_cases untold (one ∷ []) u c),
  )

  number_old : (i : ℕ) → i < length untold → number_at more i ≡ number_at untold i
  number_old i l = ap (λ (u : Untold). u.number) (get_or_append_left untold (one ∷ []) no_untold i l)

  number_new : number_at more (length untold) ≡ n
  number_new = ap (λ (u : Untold). u.number) (get_or_push untold one no_untold (length untold) refl)

  number_below : (i : ℕ) → i < length untold → number_at untold i < n
  number_below i l =
      let u : Untold = slice_index_or untold i no_untold in
      (old.each u (i, l, get_or_from_slice_get untold i u u (slice_get-get_or untold i no_untold l))).below

  rising_more : (i j : ℕ) → i < j → j < length more → number_at more i < number_at more j
  rising_more i j l lj =
      ⊎_elim
      (λ (x : j < length untold). omega (arith, number_old i (omega (arith, l, x)), number_old j x, old.rising i j l x))
      (λ (x : length untold ≤ j).
      let e : length untold ≡ j = omega (arith, x, lj, length_push untold one) in
      let li : i < length untold = omega (arith, l, e) in
      subst (λ m. number_at more i < number_at more m) e (omega (arith, number_old i li, number_new, number_below i li)))
      (cases_lt j (length untold))

  pub untold_next : (now : List Untold) → now ≡ more → AreFollowed go Sure clean ps limit arrivals now (n + 1)
  untold_next now is =
      subst (λ (us : List Untold). AreFollowed go Sure clean ps limit arrivals us (n + 1)) (sym is)
      (record {
        within = omega (arith, lt);
        told = λ k below f s. old.told k (earlier k below f) (before k f) s;
        few = λ k below f. old.few k (earlier k below f) (before k f);
        steps = λ i li. step_past (arrival_at arrivals i).step (old.steps i li);
        each = λ u c.
            ⊎_elim
            (λ (x : Contains untold u).
            let v = old.each u x in
            let it : IsUntoldBelow clean ps limit arrivals (n + 1) u = record { below = omega (arith, v.below); label = v.label; why = v.why } in
            it)
            (λ (x : Contains (one ∷ []) u).
            subst (IsUntoldBelow clean ps limit arrivals (n + 1)) (is_one u x)
            (record { below = omega arith; label = refl; why = is_why }))
            (Contains-append_cases untold (one ∷ []) u c);
        rising = rising_more;
      })

-- requests that lead on from open labels alone, and one more from an open label
pass_more : (go : Label → Request → Label) (Open : Label → Type 0) (l : Label) (rs : List Request) (r : Request) → PassBy go Open l rs
    → Open (led_by go l rs) → PassBy go Open l (rs ++ r ∷ [])
pass_more go Open l [] r pass free = (free, tt)
pass_more go Open l (q ∷ rs) r pass free = (pass.0, pass_more go Open (go l q) rs r pass.1 free)

-- where all arrivals are followed that can be, and what holds of each request that leads to another label
module _ (go : Label → Request → Label) (Sure : Label → Type 0) (Holds : Label → Request → Type 0) (clean : Bool) (ps : List Policy) (from : Label) (known : List ℕ)
    (arrivals : List Arrival) (trail : IsTrail go from known arrivals) (limit : ℕ) (untold : List Untold)
    (followed : AreFollowed go Sure clean ps limit arrivals untold (length arrivals))
    (holds : (l : Label) (r : Request) → (go l r ≡ l → ⊥) → Holds l r) where
  number_within : (u : Untold) → Contains untold u → u.number < length arrivals
  number_within u c = (followed.each u c).below

  followed_at : (k : ℕ) → IsOpen untold (arrival_at arrivals k).label → IsFollowed untold k
  followed_at k free u c e = free u c (sym (followed.each u c).label ∙ ap (λ (i : ℕ). (arrival_at arrivals i).label) e)

  open_at : (k : ℕ) → k < length arrivals → IsFollowed untold k → IsOpen untold (arrival_at arrivals k).label
  open_at k lt f u c e = f u c (same go from known arrivals trail u.number k (number_within u c) lt ((followed.each u c).label ∙ e))

  abbrev Passes : List Request → Type 0
  Passes rs = PassBy go (IsOpen untold) from rs

  pass_by_step : (i : ℕ) (o : Option Step) (way : List Request) → i < length arrivals → IsWay i o trail.ways way → IsStepBehind (length arrivals) untold o
      → ((k : ℕ) → k < i → Passes (way_at trail.ways k)) → Passes way
  pass_by_step i None way lt is behind earlier = subst Passes (sym is) tt
  pass_by_step i (Some s) way lt is behind earlier =
      let free : IsOpen untold (led_by go from (way_at trail.ways s.from)) =
      subst (IsOpen untold) (sym (trail.each s.from behind.0).leads) (open_at s.from behind.0 behind.1) in
      subst Passes (sym is.1) (pass_more go (IsOpen untold) from (way_at trail.ways s.from) s.request (earlier s.from is.0) free)

  pass_below : (m i : ℕ) → i < m → i < length arrivals → Passes (way_at trail.ways i)
  pass_below zero i lt li = absurd (omega (arith, lt))
  pass_below (suc m) i lt li =
      pass_by_step i (arrival_at arrivals i).step (way_at trail.ways i) li (trail.each i li).is_way (followed.steps i li)
      (λ k below. pass_below m k (omega (arith, below, lt)) (omega (arith, below, li)))

  passes : (i : ℕ) → i < length arrivals → Passes (way_at trail.ways i)
  passes i li = pass_below (i + 1) i (omega arith) li

  on : (rs : List Request) (l : Label) (m : ℕ) → All IsAskable rs → PassBy go (IsSure untold Sure) l rs → IsWithin arrivals l m
      → IsWithin arrivals (led_by go l rs) (m + length rs)
  on [] l m asked pass w = (w.0, w.1, w.2, omega (arith, w.3))
  on (r ∷ rs) l m asked pass w =
      let free : IsSure untold Sure (arrival_at arrivals w.0).label = subst (IsSure untold Sure) (sym w.2) pass.0 in
      let next = followed.told w.0 w.1 (followed_at w.0 free.0) free.1 r (All-head IsAskable r rs asked) in
      let there : (arrival_at arrivals next.0).label ≡ go l r = next.2 ∙ ap (λ (x : Label). go x r) w.2 in
      let rest = on rs (go l r) (m + 1) (All-tail IsAskable r rs asked) pass.1 (next.0, next.1, there, omega (arith, next.3, w.3)) in
      (rest.0, rest.1, rest.2, omega (arith, rest.3))

  reach_all : ReachAll go (IsSure untold Sure) from arrivals
  reach_all rs told =
      let first : (arrival_at arrivals 0).length ≤ 0 = (trail.each 0 trail.some).short in
      let w = on rs from 0 told.asked told.pass (0, trail.some, trail.start, first) in
      (w.0, w.1, w.2, omega (arith, w.3))

  pub are_arrivals : AreArrivalsBeside go (IsOpen untold) (IsSure untold Sure) Holds from arrivals
  are_arrivals = record {
    ways = trail.ways;
    are = are_ways go from known arrivals trail;
    each = λ i a e.
        let h = here go from known arrivals trail i a e in
        let led = trail.each i h.0 in
        subst (λ (x : Arrival). IsShortestBeside go (IsOpen untold) (IsSure untold Sure) Holds from x (way_at trail.ways i)) h.1
        (record {
          told = record { asked = led.asked; pass = passes i h.0 };
          kept = keeps go Holds from known arrivals trail holds i h.0;
          leads = led.leads;
          long = led.long;
          shortest = λ rs told is.
              let w = reach_all rs told in
              let j : w.0 ≡ i = same go from known arrivals trail w.0 i w.1 h.0 (w.2 ∙ is) in
              subst (λ x. (arrival_at arrivals x).length ≤ length rs) j w.3;
        });
    all = λ rs told.
        let w = reach_all rs told in
        (w.0, arrival_at arrivals w.0, slice_get-get_or arrivals w.0 no_arrival w.1, w.2);
    once = once go from known arrivals trail;
    rising = λ i j a b e f le.
        let h = here go from known arrivals trail i a e in
        let k = here go from known arrivals trail j b f in
        let less = trail.rising i j le k.0 in
        omega (arith, less, ap (λ (x : Arrival). x.length) h.1, ap (λ (x : Arrival). x.length) k.1);
  }

  pub are_untold : AreUntoldFor clean ps limit arrivals untold
  are_untold = record {
    each = λ u c.
        let x = followed.each u c in
        record {
          arrival = arrival_at arrivals u.number;
          there = slice_get-get_or arrivals u.number no_arrival x.below;
          label = x.label;
          why = x.why;
        };
    few = λ i a e free.
        let h = here go from known arrivals trail i a e in
        let Few : Arrival → Type 0 = λ x. IsOpen untold x.label → HaveManyPatternsAt ps x.label → ⊥ in
        let it : Few (arrival_at arrivals i) = λ o. followed.few i h.0 (followed_at i o) in
        subst Few h.1 it free;
    rising = λ i j u v e f lt.
        let a : number_at untold i ≡ u.number = ap (λ (x : Untold). x.number) (get_or_from_slice_get untold i u no_untold e) in
        let b : number_at untold j ≡ v.number = ap (λ (x : Untold). x.number) (get_or_from_slice_get untold j v no_untold f) in
        let less = followed.rising i j lt (slice_get_within untold j v f) in
        omega (arith, a, b, less);
  }
