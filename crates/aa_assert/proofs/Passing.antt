-- What the arrivals say of whether a task comes to some labels.
use Rattle.std.proofs.Common.{◌≡◌, ℕ, ◌+◌, ◌<◌, ◌≤◌, List, [], ◌∷◌, length, get_or, Vec, Global, Bool, true, false, true≢false, Some, None}
use Rattle.std.proofs.Common.{refl, sym, ap, subst, ◌∙◌, inl, inr, ⊎_elim, arith}
use Rattle.std.specs.Prelude.{not, if◌then◌else◌, Contains, All, Option, position}
use Rattle.std.specs.List.{slice_get, position_or_len}
use Rattle.std.specs.Option.{option_map_or}
use Rattle.std.proofs.lemmas.Grind.{common_steps}
use Rattle.std.proofs.lemmas.List.Sums.{fails_before_first}
use Rattle.std.proofs.lemmas.Option.{slice_get-get_or, get_or_from_slice_get, slice_get_within}
use Rattle.std.proofs.lemmas.Bool.{and_parts, cases_lt}
use Rattle.std.proofs.lemmas.List.Quantifiers.{position-Some}
use Rattle.aa_model.specs.declared.policy.Policy.{Policy}
use Rattle.aa_model.specs.declared.label.Label.{Label}
use Rattle.aa_model.specs.Requests.{RequestedExec}
use Rattle.aa_model.specs.declared.request.Request.{Request}
use Rattle.aa_model.specs.declared.request.Request.TheVariants.{File, Link, Exec, Cap, Net, Change, Reload}
use Rattle.aa_skipping.specs.declared.unread.Unread.{Unread}
use Rattle.aa_unclean_paths.specs.Requests.{is_at_unclean_path, does_request_count}
use Rattle.aa_auto.specs.Tables.{HasPlaces}
use Rattle.aa_pattern.specs.Limits.{most_patterns}
use Rattle.aa_representatives.specs.Alike.{deciding}
use Rattle.aa_representatives.specs.Askable.{IsAskable}
use Rattle.aa_representatives.specs.Names.{many_name_patterns, HaveNamePlaces}
use Rattle.aa_reachability.specs.declared.beside.Course.{Course}
use Rattle.aa_reachability.specs.declared.trail.Arrival.{Arrival}
use Rattle.aa_reachability.specs.declared.reached.Untold.{Untold}
use Rattle.aa_reachability.specs.declared.reached.Why.{Why}
use Rattle.aa_reachability.specs.declared.reached.Why.TheVariants.{TooManyPatterns, TooManyStates}
use Rattle.aa_reachability.specs.Trail.{no_arrival}
use Rattle.aa_reachability.specs.Moves.{label_going, is_left_out, IsWhyFor}
use Rattle.aa_reachability.specs.Reach.{led_by, way_at, AreWays, IsOpen, PassBy, AreTold, AreUntoldFor}
use Rattle.aa_reachability.specs.Beside.{one_doubts, is_doubted, label_decided, is_sure, AreOpenings, HoldAlong, IsSure, AreArrivalsBeside}
use Rattle.aa_reachability.specs.Course.{unreads_of, label_on, IsSureOn, IsTakenOn}
use Rattle.aa_quantifiers.specs.declared.aim.Labels.{Labels}
use Rattle.aa_quantifiers.proofs.Growing.{both}
use Rattle.aa_assert.specs.declared.passage.Lead.TheVariants.{Through}
use Rattle.aa_assert.specs.Passages.{going, as_others, do_count, are_clean, is_elsewhere, IsWayTo, IsTellable, IsTellableWay, IsShortestWay, IsFirstWay}
use Rattle.aa_assert.specs.Passages.{IsUntellable, lead_past, IsLead}
use Rattle.aa_assert.proofs.Counted.{all_count}

-- what is no execution is told as it is
pub kept_as_is : (r : Request) → ((e : RequestedExec) → r ≡ Exec e → ⊥) → as_others r ≡ r
kept_as_is (Exec e) isnt = absurd (isnt e refl)
kept_as_is (File f) isnt = refl
kept_as_is (Link l) isnt = refl
kept_as_is (Cap c) isnt = refl
kept_as_is (Net f s) isnt = refl
kept_as_is (Change name) isnt = refl
kept_as_is (Reload m) isnt = refl

-- where no place passes, none does
none_there : {X : Type 0} (p : X → Bool) (xs : List X) → position p xs ≡ None → (j : ℕ) (x : X) → slice_get xs j ≡ Some x → p x ≡ false
none_there p xs e j x at =
    let long : length xs ≤ position_or_len p xs = grind (arith, common_steps) in
    let within = slice_get_within xs j x at in
    subst (λ y. p y ≡ false) (get_or_from_slice_get xs j x x at) (fails_before_first p xs j x (omega (arith, long, within)))

first_in : (u : Untold) (us : List Untold) → Contains (u ∷ us) u
first_in u us = (0, grind (arith, common_steps), refl)

-- ---- requests that count

not_out : (b : Bool) → not b ≡ true → b ≡ false
not_out true e = absurd (true≢false (sym e))
not_out false e = refl

-- those that count where clean paths do alone, or all, are those that aren't left out then
counts_taken : (clean : Bool) (r : Request) → does_request_count (not clean) r ≡ true → is_left_out clean r ≡ false
counts_taken true r e = not_out (is_at_unclean_path r) e
counts_taken false r e = refl

taken_counts : (clean : Bool) (r : Request) → is_left_out clean r ≡ false → does_request_count (not clean) r ≡ true
taken_counts true r e = ap not e
taken_counts false r e = refl

-- why it isn't told where all paths count is why it isn't where clean ones alone do
why_clean : (ps : List Policy) (limit : ℕ) (l : Label) (why : Why) → IsWhyFor false ps limit l why → IsWhyFor true ps limit l why
why_clean ps limit l TooManyPatterns is =
    ⊎_elim
    (λ (paths : most_patterns < length (deciding ps l)). inl (omega (arith, paths)))
    (λ (names : most_patterns < many_name_patterns ps l). inr names)
    is
why_clean ps limit l TooManyStates is =
    ⊎_elim (λ (paths : HasPlaces (deciding ps l) (limit + 1)). inl (inl paths)) (λ (names : HaveNamePlaces ps l (limit + 1)). inr names) is

-- ---- without files that are skipped

no_doubt : (o : Option Policy) (l : Label) (r : Request) → option_map_or (one_doubts [] l r) o false ≡ false
no_doubt None l r = refl
no_doubt (Some policy) l r = refl

none_doubted : (ps : List Policy) (l : Label) (r : Request) → is_doubted ps [] l r ≡ false
unfolding is_doubted
none_doubted ps l r = no_doubt (slice_get ps 0) l r

pub whole_openings : (ps : List Policy) (unreads : List Unread) (openings : List Bool) → unreads ≡ [] → AreOpenings ps unreads openings
whole_openings ps unreads openings none l sure r = ap (λ (us : List Unread). is_doubted ps us l r) none ∙ none_doubted ps l r

-- a course where rules are enforced, and all files were read
module _ (c : Course) (none : unreads_of c.unreads.now ≡ []) (enforced : c.going.as_enforced ≡ true) where
  abbrev ps : List Policy
  ps = c.going.policies.now

  abbrev clean : Bool
  clean = c.only_clean

  goes : (l : Label) (r : Request) → does_request_count (not clean) r ≡ true → label_on c l r ≡ going ps l r
  unfolding label_on
  goes l r counts =
      ap (λ (b : Bool). if b then l else label_decided c.going.as_enforced ps (unreads_of c.unreads.now) l r) (counts_taken clean r counts)
      ∙ (ap (λ (b : Bool). if b then l else label_going c.going.as_enforced ps l r)
      (ap (λ (us : List Unread). is_doubted ps us l r) none ∙ none_doubted ps l r)
      ∙ ap (λ (b : Bool). label_going b ps l r) enforced)

  led : (rs : List Request) (l : Label) → do_count (not clean) rs ≡ true → led_by (label_on c) l rs ≡ led_by (going ps) l rs
  led [] l count = refl
  led (r ∷ rs) l count =
      let parts = and_parts (does_request_count (not clean) r) (do_count (not clean) rs) count in
      ap (λ (m : Label). led_by (label_on c) m rs) (goes l r parts.0) ∙ led rs (going ps l r) parts.1

  -- requests that aren't left out count
  kept : (rs : List Request) (l : Label) → HoldAlong (label_on c) (IsTakenOn c) l rs → do_count (not clean) rs ≡ true
  kept [] l holds = refl
  kept (r ∷ rs) l holds =
      both (does_request_count (not clean) r) (do_count (not clean) rs) (taken_counts clean r holds.0.1) (kept rs (label_on c l r) holds.1)

  sure : (l : Label) → IsSureOn c l
  sure l = subst (λ (us : List Unread). is_sure us c.openings.now l ≡ true) (sym none) refl

  module _ (limit : ℕ) (from : Label) (ls : Labels) (arrivals : List Arrival) (untold : List Untold)
      (are : AreArrivalsBeside (label_on c) (IsOpen untold) (IsSure untold (IsSureOn c)) (IsTakenOn c) from arrivals)
      (of : AreUntoldFor clean ps limit arrivals untold) where
    abbrev is_there : Arrival → Bool
    is_there a = is_elsewhere ls from a.label

    abbrev Known : Label → Type 0
    Known l = IsSure untold (IsSureOn c) l

    -- what leads on from labels alone of which that can be told, leads on from none that is untold
    open_at : (l : Label) → IsTellable clean ps limit l → Known l
    open_at l can = ((λ u con e. can u.why (subst (λ (x : Label). IsWhyFor clean ps limit x u.why) e (of.each u con).why)), sure l)

    pass_known : (rs : List Request) (l : Label) → do_count (not clean) rs ≡ true → PassBy (going ps) (IsTellable clean ps limit) l rs
        → PassBy (label_on c) Known l rs
    pass_known [] l count pass = tt
    pass_known (r ∷ rs) l count pass =
        let parts = and_parts (does_request_count (not clean) r) (do_count (not clean) rs) count in
        (open_at l pass.0, subst (λ (m : Label). PassBy (label_on c) Known m rs) (sym (goes l r parts.0)) (pass_known rs (going ps l r) parts.1 pass.1))

    told_known : (rs : List Request) → IsTellableWay clean ps limit from ls rs → AreTold (label_on c) Known from rs
    told_known rs t = record { asked = t.told.asked; pass = pass_known rs from t.counted t.told.pass }

    counted : (i : ℕ) (a : Arrival) → slice_get arrivals i ≡ Some a → do_count (not clean) (way_at are.ways i) ≡ true
    counted i a e = kept (way_at are.ways i) from (are.each i a e).kept

    -- where the requests of an arrival lead
    led_there : (i : ℕ) (a : Arrival) (e : slice_get arrivals i ≡ Some a) → led_by (going ps) from (way_at are.ways i) ≡ a.label
    led_there i a e = sym (led (way_at are.ways i) from (counted i a e)) ∙ (are.each i a e).leads

    pub through : (i : ℕ) (way : List Request) → way ≡ way_at are.ways i → position is_there arrivals ≡ Some i
        → IsShortestWay clean ps limit from ls way
    through i way is at =
        let p = position-Some is_there arrivals i no_arrival at in
        let here = slice_get-get_or arrivals i no_arrival p.0 in
        let a = get_or arrivals i no_arrival in
        let s = are.each i a here in
        record {
          is = record {
            asked = subst (All IsAskable) (sym is) s.told.asked;
            leads = subst (λ (w : List Request). is_elsewhere ls from (led_by (going ps) from w) ≡ true) (sym is)
                (ap (is_elsewhere ls from) (led_there i a here) ∙ p.1);
          };
          counted = subst (λ (w : List Request). do_count (not clean) w ≡ true) (sym is) (counted i a here);
          shortest = λ rs t.
              let told = told_known rs t in
              let r = are.all rs told in
              let also : is_there r.1 ≡ true = ap (is_elsewhere ls from) (r.3 ∙ led rs from t.counted) ∙ t.leads in
              let behind : i ≤ r.0 = no_earlier i r.0 r.1 p.2 r.2 also in
              let more = are.rising i r.0 a r.1 here r.2 behind in
              let least = (are.each r.0 r.1 r.2).shortest rs told (sym r.3) in
              let long = ap (λ (w : List Request). length w) is ∙ s.long in
              omega (arith, long, more, least);
        }
      where
        no_earlier : (i j : ℕ) (b : Arrival) → ((k : ℕ) → k < i → is_there (get_or arrivals k no_arrival) ≡ false)
            → slice_get arrivals j ≡ Some b → is_there b ≡ true → i ≤ j
        no_earlier i j b none got there =
            ⊎_elim
            (λ (lt : j < i). absurd (true≢false (sym there ∙ (ap is_there (sym (get_or_from_slice_get arrivals j b no_arrival got)) ∙ none j lt))))
            (λ (le : i ≤ j). le)
            (cases_lt j i)

    -- it is told of each label where requests lead on
    open_all : (rs : List Request) (l : Label) → untold ≡ [] → PassBy (label_on c) Known l rs
    open_all [] l empty = tt
    open_all (r ∷ rs) l empty =
        (((λ u con e. none_in u (subst (λ (us : List Untold). Contains us u) empty con)), sure l), open_all rs (label_on c l r) empty)
      where
        none_in : (u : Untold) → Contains [] u → ⊥
        none_in u con = omega (arith, con.1)

    -- where no arrival is at one of the labels, no list of requests leads there of which that is told
    not_there : (rs : List Request) → position is_there arrivals ≡ None → do_count (not clean) rs ≡ true → AreTold (label_on c) Known from rs
        → is_elsewhere ls from (led_by (going ps) from rs) ≡ true → ⊥
    not_there rs nowhere count told leads =
        let r = are.all rs told in
        true≢false (sym (ap (is_elsewhere ls from) (r.3 ∙ led rs from count) ∙ leads) ∙ none_there is_there arrivals nowhere r.0 r.1 r.2)

    untellable : (u : Untold) → Contains untold u → position is_there arrivals ≡ None → IsUntellable clean ps limit from ls u.label u.why
    untellable u con nowhere =
        let it = of.each u con in
        record {
          way = way_at are.ways u.number;
          asked = (are.each u.number it.arrival it.there).told.asked;
          counted = counted u.number it.arrival it.there;
          leads = led_there u.number it.arrival it.there ∙ it.label;
          reason = it.why;
          none = λ rs t. not_there rs nowhere t.counted (told_known rs t) t.leads;
        }

    pub without : (us : List Untold) → untold ≡ us → position is_there arrivals ≡ None → IsLead clean ps limit from ls (lead_past us)
    without [] e nowhere = λ rs w count. not_there rs nowhere count (record { asked = w.asked; pass = open_all rs from e }) w.leads
    without (u ∷ us) e nowhere = untellable u (subst (λ (x : List Untold). Contains x u) (sym e) (first_in u us)) nowhere

  -- so of a slice of the arrivals
  module _ (limit : ℕ) (from : Label) (ls : Labels) (slice arrivals : List Arrival) (untold : List Untold) (same : slice ≡ arrivals)
      (are : AreArrivalsBeside (label_on c) (IsOpen untold) (IsSure untold (IsSureOn c)) (IsTakenOn c) from arrivals)
      (of : AreUntoldFor clean ps limit arrivals untold) where
    abbrev are_too : AreArrivalsBeside (label_on c) (IsOpen untold) (IsSure untold (IsSureOn c)) (IsTakenOn c) from slice
    are_too =
        subst (λ (as' : List Arrival). AreArrivalsBeside (label_on c) (IsOpen untold) (IsSure untold (IsSureOn c)) (IsTakenOn c) from as') (sym same) are

    abbrev of_too : AreUntoldFor clean ps limit slice untold
    of_too = subst (λ (as' : List Arrival). AreUntoldFor clean ps limit as' untold) (sym same) of

    pub through_it : (i : ℕ) (way : Vec Request Global) → ((ways : List (List Request)) → AreWays slice ways → way.items ≡ way_at ways i)
        → position (λ (a : Arrival). is_elsewhere ls from a.label) slice ≡ Some i → IsLead clean ps limit from ls (Through way)
    through_it i way is at = through limit from ls slice untold are_too of_too i way.items (is are_too.ways are_too.are) at

    pub without_it : (us : List Untold) → us ≡ untold → position (λ (a : Arrival). is_elsewhere ls from a.label) slice ≡ None
        → IsLead clean ps limit from ls (lead_past us)
    without_it us e nowhere = without limit from ls slice untold are_too of_too us (sym e) nowhere

-- ---- the first of lists

module _ (ps : List Policy) (limit : ℕ) (from : Label) (ls : Labels) where
  pass_all : (rs : List Request) (l : Label) → PassBy (going ps) (IsTellable true ps limit) l rs → PassBy (going ps) (IsTellable false ps limit) l rs
  pass_all [] l pass = tt
  pass_all (r ∷ rs) l pass = ((λ why is. pass.0 why (why_clean ps limit l why is)), pass_all rs (going ps l r) pass.1)

  -- a list at clean paths of which that is told where those count alone is one of all
  pub tellable_all : (rs : List Request) → IsTellableWay true ps limit from ls rs → IsTellableWay false ps limit from ls rs
  tellable_all rs t = record {
    counted = all_count rs;
    told = record { asked = t.told.asked; pass = pass_all rs from t.told.pass };
    leads = t.leads;
  }

  -- a shortest list that is at clean paths
  pub clean_first : (way : List Request) → are_clean way ≡ true → IsShortestWay false ps limit from ls way → IsFirstWay ps limit from ls way
  clean_first way e s = record {
    shortest = subst (λ (b : Bool). IsShortestWay b ps limit from ls way) (sym e)
        (record { is = s.is; counted = e; shortest = λ rs t. s.shortest rs (tellable_all rs t) });
    clean = λ rs is f. e;
  }

pub none_at_all : (policies : List Policy) (from : Label) (ls : Labels)
    → ((rs : List Request) → IsWayTo policies from ls rs → do_count true rs ≡ true → ⊥) → (rs : List Request) → IsWayTo policies from ls rs → ⊥
none_at_all policies from ls none rs is = none rs is (all_count rs)
