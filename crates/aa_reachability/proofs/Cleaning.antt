-- Where no request is at an unclean path, what is found is what is found where clean paths alone count.
use Rattle.std.proofs.Common.{◌≡◌, ℕ, zero, suc, ◌+◌, ◌<◌, ◌≤◌, List, [], ◌∷◌, ◌++◌, Bool, true, false, cond, Option, Some, None, All, length, get_or}
use Rattle.std.proofs.Common.{refl, sym, ap, ◌∙◌, subst, arith, inl, inr, ⊎_elim}
use Rattle.std.specs.Prelude.{not, filter}
use Rattle.std.specs.List.{list_all, slice_get}
use Rattle.std.proofs.lemmas.Bool.{and_parts, not-true}
use Rattle.std.proofs.lemmas.List.Elements.{All-nil, All-head, All-tail, All-cons, All-push}
use Rattle.std.proofs.lemmas.Option.{slice_get-get_or, slice_get_within, get_or_from_slice_get}
use Rattle.aa_pattern.specs.Limits.{most_patterns}
use Rattle.aa_auto.specs.Tables.{HasPlaces}
use Rattle.aa_model.specs.declared.policy.Policy.{Policy}
use Rattle.aa_model.specs.declared.label.Label.{Label}
use Rattle.aa_model.specs.declared.request.Request.{Request}
use Rattle.aa_unclean_paths.specs.Requests.{is_at_unclean_path}
use Rattle.aa_representatives.specs.Alike.{deciding}
use Rattle.aa_representatives.specs.Names.{many_name_patterns, HaveNamePlaces}
use Rattle.aa_representatives.specs.Askable.{IsAskable}
use Rattle.aa_reachability.specs.declared.trail.Step.{Step}
use Rattle.aa_reachability.specs.declared.trail.Arrival.{Arrival}
use Rattle.aa_reachability.specs.declared.reached.Untold.{Untold}
use Rattle.aa_reachability.specs.declared.reached.Why.{Why}
use Rattle.aa_reachability.specs.declared.reached.Why.TheVariants.{TooManyPatterns, TooManyStates}
use Rattle.aa_reachability.specs.Moves.{IsWhyFor}
use Rattle.aa_reachability.specs.Order.{IsNoLater}
use Rattle.aa_reachability.specs.Reach.{IsWay, AreWays, PassBy, AreTold, AreUntoldFor, led_by, way_at}
use Rattle.aa_reachability.specs.Beside.{HoldAlong, AreArrivalsBeside, AreNearBeside}
use Rattle.aa_reachability.specs.Clean.{is_clean_step, has_clean_step}
use Rattle.aa_reachability.specs.Trail.{no_arrival, arrival_at}
use Rattle.aa_reachability.proofs.Backing.{way_before}

-- requests at unclean paths lead nowhere
abbrev pub only_clean : (Label → Request → Label) → Label → Request → Label
only_clean go l r = cond (is_at_unclean_path r) l (go l r)

abbrev IsClean : Request → Type 0
IsClean r = is_at_unclean_path r ≡ false

-- the requests of a list that are at no unclean path
abbrev cleaned : List Request → List Request
cleaned rs = filter (λ (r : Request). not (is_at_unclean_path r)) rs

module _ (go : Label → Request → Label) where
  abbrev there : Label → Request → Label
  there l r = only_clean go l r

  -- ---- lists, and what is left of them

  led_cleaned : (l : Label) (rs : List Request) → led_by there l rs ≡ led_by go l (cleaned rs)
  led_cleaned l [] = refl
  led_cleaned l (r ∷ rs) = at (led_cleaned l rs) (led_cleaned (go l r) rs) (is_at_unclean_path r)
    where
      at : led_by there l rs ≡ led_by go l (cleaned rs) → led_by there (go l r) rs ≡ led_by go (go l r) (cleaned rs) → (b : Bool)
          → led_by there (cond b l (go l r)) rs ≡ led_by go l (cond (not b) (r ∷ cleaned rs) (cleaned rs))
      at stays moves true = stays
      at stays moves false = moves

  pass_cleaned : (Open : Label → Type 0) (l : Label) (rs : List Request) → PassBy there Open l rs → PassBy go Open l (cleaned rs)
  pass_cleaned Open l [] pass = tt
  pass_cleaned Open l (r ∷ rs) pass =
      at (λ (p : PassBy there Open l rs). pass_cleaned Open l rs p) (λ (p : PassBy there Open (go l r) rs). pass_cleaned Open (go l r) rs p)
      (is_at_unclean_path r) pass.1
    where
      at : (PassBy there Open l rs → PassBy go Open l (cleaned rs)) → (PassBy there Open (go l r) rs → PassBy go Open (go l r) (cleaned rs))
          → (b : Bool) → PassBy there Open (cond b l (go l r)) rs → PassBy go Open l (cond (not b) (r ∷ cleaned rs) (cleaned rs))
      at stays moves true p = stays p
      at stays moves false p = (pass.0, moves p)

  -- ---- lists of clean requests alone

  led_same : (l : Label) (rs : List Request) → All IsClean rs → led_by there l rs ≡ led_by go l rs
  led_same l [] all = refl
  led_same l (r ∷ rs) all =
      ap (λ (b : Bool). led_by there (cond b l (go l r)) rs) (All-head IsClean r rs all) ∙ led_same (go l r) rs (All-tail IsClean r rs all)

  pass_same : (Open : Label → Type 0) (l : Label) (rs : List Request) → All IsClean rs → PassBy go Open l rs → PassBy there Open l rs
  pass_same Open l [] all pass = tt
  pass_same Open l (r ∷ rs) all pass = (
    pass.0,
    subst (λ (b : Bool). PassBy there Open (cond b l (go l r)) rs) (sym (All-head IsClean r rs all))
        (pass_same Open (go l r) rs (All-tail IsClean r rs all) pass.1),
  )

  module _ (Holds Held : Label → Request → Type 0) (so : (l : Label) (r : Request) → Holds l r → IsClean r → Held l r) where
    hold_same : (l : Label) (rs : List Request) → All IsClean rs → HoldAlong go Holds l rs → HoldAlong there Held l rs
    hold_same l [] all kept = tt
    hold_same l (r ∷ rs) all kept = (
      so l r kept.0 (All-head IsClean r rs all),
      subst (λ (b : Bool). HoldAlong there Held (cond b l (go l r)) rs) (sym (All-head IsClean r rs all))
          (hold_same (go l r) rs (All-tail IsClean r rs all) kept.1),
    )

asked_cleaned : (rs : List Request) → All IsAskable rs → All IsAskable (cleaned rs)
asked_cleaned [] all = all
asked_cleaned (r ∷ rs) all = at (asked_cleaned rs (All-tail IsAskable r rs all)) (is_at_unclean_path r)
  where
    at : All IsAskable (cleaned rs) → (b : Bool) → All IsAskable (cond (not b) (r ∷ cleaned rs) (cleaned rs))
    at rest true = rest
    at rest false = All-cons IsAskable r (cleaned rs) (All-head IsAskable r rs all) rest

long_cleaned : (rs : List Request) → length (cleaned rs) ≤ length rs
long_cleaned [] = omega arith
long_cleaned (r ∷ rs) = at (long_cleaned rs) (is_at_unclean_path r)
  where
    at : length (cleaned rs) ≤ length rs → (b : Bool) → length (cond (not b) (r ∷ cleaned rs) (cleaned rs)) ≤ length (r ∷ rs)
    at rest true = omega (arith, rest)
    at rest false = omega (arith, rest)

all_at : (xs : List Arrival) (i : ℕ) (a : Arrival) → slice_get xs i ≡ Some a → list_all has_clean_step xs ≡ true → has_clean_step a ≡ true
all_at xs i a e all = subst (λ (x : Arrival). has_clean_step x ≡ true) (get_or_from_slice_get xs i a no_arrival e) (each xs i (slice_get_within xs i a e) all)
  where
    each : (ys : List Arrival) (j : ℕ) → j < length ys → list_all has_clean_step ys ≡ true → has_clean_step (get_or ys j no_arrival) ≡ true
    each [] j lt all = absurd (omega (arith, lt))
    each (y ∷ ys) zero lt all = (and_parts (has_clean_step y) (list_all has_clean_step ys) all).0
    each (y ∷ ys) (suc j) lt all = each ys j (omega (arith, lt)) (and_parts (has_clean_step y) (list_all has_clean_step ys) all).1

-- the lists of requests by which arrivals are got to
module _ (arrivals : List Arrival) (clean : list_all has_clean_step arrivals ≡ true) where
  module _ (ways : List (List Request)) (are : AreWays arrivals ways) where
    by_step : (i : ℕ) (o : Option Step) (way : List Request) → IsWay i o ways way → is_clean_step o ≡ true
        → ((k : ℕ) → k < i → All IsClean (way_at ways k)) → All IsClean way
    by_step i None way is e earlier = subst (All IsClean) (sym is) (All-nil IsClean)
    by_step i (Some s) way is e earlier =
        subst (All IsClean) (sym is.1) (All-push IsClean (way_at ways s.from) s.request (earlier s.from is.0) (not-true (is_at_unclean_path s.request) e))

    clean_below : (m i : ℕ) → i < m → i < length arrivals → All IsClean (way_at ways i)
    clean_below zero i lt li = absurd (omega (arith, lt))
    clean_below (suc m) i lt li =
        let a = arrival_at arrivals i in
        let e = slice_get-get_or arrivals i no_arrival li in
        by_step i a.step (way_at ways i) (are.each i a e) (all_at arrivals i a e clean)
        (λ k below. clean_below m k (omega (arith, below, lt)) (omega (arith, below, li)))

    way_clean : (i : ℕ) (a : Arrival) → slice_get arrivals i ≡ Some a → All IsClean (way_at ways i)
    way_clean i a e = clean_below (i + 1) i (omega arith) (slice_get_within arrivals i a e)

  module _ (go : Label → Request → Label) (Open Sure : Label → Type 0) (Holds Held : Label → Request → Type 0)
      (so : (l : Label) (r : Request) → Holds l r → IsClean r → Held l r) (from : Label) where
    told_cleaned : (rs : List Request) → AreTold (only_clean go) Sure from rs → AreTold go Sure from (cleaned rs)
    told_cleaned rs told = record { asked = asked_cleaned rs told.asked; pass = pass_cleaned go Sure from rs told.pass }

    pub clean_arrivals : AreArrivalsBeside go Open Sure Holds from arrivals → AreArrivalsBeside (only_clean go) Open Sure Held from arrivals
    clean_arrivals are = record {
      ways = are.ways;
      are = are.are;
      each = λ i a e.
          let it = are.each i a e in
          let way = way_at are.ways i in
          let all = way_clean are.ways are.are i a e in
          record {
            told = record { asked = it.told.asked; pass = pass_same go Open from way all it.told.pass };
            kept = hold_same go Holds Held so from way all it.kept;
            leads = led_same go from way all ∙ it.leads;
            long = it.long;
            shortest = λ rs told is.
                let least = it.shortest (cleaned rs) (told_cleaned rs told) (sym (led_cleaned go from rs) ∙ is) in
                omega (arith, least, long_cleaned rs);
          };
      all = λ rs told.
          let r = are.all (cleaned rs) (told_cleaned rs told) in
          (r.0, r.1, r.2, r.3 ∙ sym (led_cleaned go from rs));
      once = are.once;
      rising = are.rising;
    }

    pub clean_near : AreNearBeside go Sure Holds from arrivals → AreNearBeside (only_clean go) Sure Held from arrivals
    clean_near near = record {
      ways = near.ways;
      are = near.are;
      first = near.first;
      each = λ i a e.
          let it = near.each i a e in
          record { asked = it.asked; leads = led_same go from (way_at near.ways i) (way_clean near.ways near.are i a e) ∙ it.leads; short = it.short };
      kept = λ i a e. hold_same go Holds Held so from (way_at near.ways i) (way_clean near.ways near.are i a e) (near.kept i a e);
      all = λ sure r asked. one sure r asked (is_at_unclean_path r);
      shortest = λ sure i a step e f r asked leads. before sure i a step e f r asked (is_at_unclean_path r) leads;
      once = near.once;
    }
      where
        one : Sure from → (r : Request) → IsAskable r → (b : Bool)
            → (i : ℕ) × (a : Arrival) × (slice_get arrivals i ≡ Some a) × (a.label ≡ cond b from (go from r))
        one sure r asked true = (0, near.first.0, near.first.1, near.first.2)
        one sure r asked false = near.all sure r asked

        before : Sure from → (i : ℕ) (a : Arrival) (step : Step) → slice_get arrivals i ≡ Some a → a.step ≡ Some step → (r : Request) → IsAskable r
            → (b : Bool) → cond b from (go from r) ≡ a.label → IsNoLater step.request r
        before sure i a step e f r asked false leads = near.shortest sure i a step e f r asked leads
        before sure i a step e f r asked true leads =
            let z : 0 ≡ i = near.once 0 i near.first.0 a near.first.1 e (near.first.2 ∙ leads) in
            absurd (omega (arith, z, (way_before arrivals near.ways near.are i a e step f).0))

-- why it isn't told where all paths count is why it isn't where clean ones alone do
why_clean : (ps : List Policy) (limit : ℕ) (l : Label) (why : Why) → IsWhyFor false ps limit l why → IsWhyFor true ps limit l why
why_clean ps limit l TooManyPatterns is =
    ⊎_elim (λ (paths : most_patterns < length (deciding ps l)). inl (omega (arith, paths))) (λ (names : most_patterns < many_name_patterns ps l). inr names) is
why_clean ps limit l TooManyStates is =
    ⊎_elim (λ (paths : HasPlaces (deciding ps l) (limit + 1)). inl (inl paths)) (λ (names : HaveNamePlaces ps l (limit + 1)). inr names) is

pub untold_clean : (ps : List Policy) (limit : ℕ) (arrivals : List Arrival) (untold : List Untold) → AreUntoldFor false ps limit arrivals untold
    → AreUntoldFor true ps limit arrivals untold
untold_clean ps limit arrivals untold are = record {
  each = λ u c.
      let it = are.each u c in
      record { arrival = it.arrival; there = it.there; label = it.label; why = why_clean ps limit u.label u.why it.why };
  few = are.few;
  rising = are.rising;
}
