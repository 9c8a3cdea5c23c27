-- What one search finds beside another.
use Rattle.std.proofs.Common.{◌≡◌, ◌+◌, ◌<◌, ℕ, zero, suc, List, [], ◌∷◌, ◌++◌, map, take, length}
use Rattle.std.proofs.Common.{Bool, true, false, cond, Option, Some, None}
use Rattle.std.proofs.Common.{refl, sym, ap, ◌∙◌, subst, arith, append-nil, append_assoc}
use Rattle.std.proofs.Common.{Result, Ok, Err, inl, inr, ⊎_elim}
use Rattle.std.specs.Prelude.{◌||◌, ◌&&◌, ◌==◌, not, flat_map, IfOk, if◌then◌else◌}
use Rattle.std.specs.List.{list_all, list_any, slice_get}
use Rattle.std.proofs.lemmas.Bool.{eq-eqb}
use Rattle.std.proofs.lemmas.Option.{same_Some, slice_get_within}
use Rattle.aa_pattern.specs.Limits.{most_patterns}
use Rattle.aa_model.specs.declared.policy.Policy.{Policy}
use Rattle.aa_model.specs.declared.label.Label.{Label}
use Rattle.aa_model.specs.declared.label.Label.TheVariants.{Unconfined, Confined}
use Rattle.aa_model.specs.declared.request.Request.{Request}
use Rattle.aa_reachability.specs.declared.trail.Arrival.{Arrival}
use Rattle.aa_reachability.specs.declared.reached.Untold.{Untold}
use Rattle.aa_representatives.specs.Alike.{deciding}
use Rattle.aa_representatives.specs.Names.{many_name_patterns, HaveNamePlaces}
use Rattle.aa_reachability.specs.declared.reached.Why.{Why}
use Rattle.aa_reachability.specs.declared.reached.Why.TheVariants.{TooManyPatterns, TooManyStates}
use Rattle.aa_reachability.specs.Moves.{HaveManyPatternsAt, HavePathPlacesFor, IsWhyFor}
use Rattle.aa_reachability.specs.Reach.{HaveWays, way_at}
use Rattle.aa_reachability.specs.Clean.{has_clean_step}
use Rattle.aa_skipped.specs.declared.skipped.Skipped.{Skipped}
use Rattle.aa_ask.specs.Told.{is_same}
use Rattle.aa_reach.specs.declared.answering.Answer.{Answer}
use Rattle.aa_reach.specs.Names.{name_of}
use Rattle.aa_reach.specs.Doubts.{Doubted, doubted_of, is_reached_by, doubted_but}
use Rattle.aa_reach.specs.Routes.{Routed, routed, Barred, barred, LeadThere, is_sought, is_wanted, route_to, route_if, all_routes}
use Rattle.aa_reach.specs.Routes.{barred_by, is_untold_by, barred_but, AreFoundNear, IsSearched, AreRoutes, AreEdges, Edges, NoEdges}
use Rattle.aa_reach.proofs.Telling.{found_there, near_there, near_clean}

same_itself : (l : Label) → is_same l l ≡ true
same_itself (Unconfined k) = eq-eqb k k refl
same_itself (Confined k n) = ap (λ (b : Bool). b && n == n) (eq-eqb k k refl) ∙ eq-eqb n n refl

or_right : (a b : Bool) → b ≡ true → (a || b) ≡ true
or_right true b e = refl
or_right false b e = e

or_left : (a b : Bool) → a ≡ true → (a || b) ≡ true
or_left true b e = refl
or_left false b e = absurd (let f : false ≡ true = e in cc)

-- what holds of one element holds of some
some_at : {X : Type 0} (f : X → Bool) (xs : List X) (i : ℕ) (x : X) → slice_get xs i ≡ Some x → f x ≡ true → list_any f xs ≡ true
some_at f [] i x at e = absurd (omega (arith, slice_get_within [] i x at))
some_at f (y ∷ ys) zero x at e = or_left (f y) (list_any f ys) (ap f (same_Some y x at) ∙ e)
some_at f (y ∷ ys) (suc i) x at e = or_right (f y) (list_any f ys) (some_at f ys i x at e)

front_none : {Y : Type 0} (xs ys : List Y) → xs ≡ [] → ys ≡ [] → xs ++ ys ≡ []
front_none xs ys e f = ap (λ zs. zs ++ ys) e ∙ f

-- nothing where nothing stands for each
none_each : {X Y : Type 0} (f : X → List Y) (xs : List X) → ((i : ℕ) (x : X) → slice_get xs i ≡ Some x → f x ≡ []) → flat_map f xs ≡ []
none_each f [] none = refl
none_each f (x ∷ xs) none = front_none (f x) (flat_map f xs) (none 0 x refl) (none_each f xs (λ i y at. none (suc i) y at))

none_if_so : {X : Type 0} (b : Bool) (xs : List X) → b ≡ true → (if b then [] else xs) ≡ []
none_if_so true xs e = refl
none_if_so false xs e = absurd (let f : false ≡ true = e in cc)

pub reached_here : (arrivals : List Arrival) (i : ℕ) (a : Arrival) → slice_get arrivals i ≡ Some a → is_reached_by arrivals a.label ≡ true
reached_here arrivals i a at = some_at (λ (b : Arrival). is_same a.label b.label) arrivals i a at (same_itself a.label)

-- nothing is found beside itself
module _ (ps : List Policy) where
  pub no_more_bars : (untold : List Untold) → flat_map (barred_but ps untold) untold ≡ []
  no_more_bars untold =
      none_each (barred_but ps untold) untold
      (λ i u at. none_if_so (is_untold_by untold u.label) (barred_by ps u ∷ [])
      (some_at (λ (v : Untold). is_same u.label v.label) untold i u at (same_itself u.label)))

  pub no_more_doubts : (skipped : List Skipped) (arrivals : List Arrival) → flat_map (doubted_but ps skipped arrivals) arrivals ≡ []
  no_more_doubts skipped arrivals =
      none_each (doubted_but ps skipped arrivals) arrivals
      (λ i a at. none_if_so (is_reached_by arrivals a.label) (doubted_of ps skipped a) (reached_here arrivals i a at))

  unwanted : (b c : Bool) → c ≡ true → (b && not c) ≡ false
  unwanted true true e = refl
  unwanted false true e = refl
  unwanted b false e = absurd (let f : false ≡ true = e in cc)

  none_unless : {X : Type 0} (b : Bool) (xs : List X) → b ≡ false → (if b then xs else []) ≡ []
  none_unless false xs e = refl
  none_unless true xs e = absurd (let f : true ≡ false = e in cc)

  module _ (enforced : Bool) (from : Label) (targets : Option (List Label)) (arrivals : List Arrival) where
    no_route : (a : Arrival) (way : List Request) → is_reached_by arrivals a.label ≡ true → route_to enforced ps from targets arrivals a way ≡ []
    no_route a way there =
        none_unless (is_wanted from targets arrivals a.label) _ (unwanted (is_sought from targets a.label) (is_reached_by arrivals a.label) there)

    none_along : (others : List Arrival) (ways : List (List Request))
        → ((i : ℕ) (a : Arrival) → slice_get others i ≡ Some a → is_reached_by arrivals a.label ≡ true)
        → all_routes enforced ps from targets arrivals others ways ≡ []
    none_along [] ways there = refl
    none_along (a ∷ others) [] there = refl
    none_along (a ∷ others) (way ∷ ways) there =
        front_none (route_to enforced ps from targets arrivals a way) (all_routes enforced ps from targets arrivals others ways)
        (no_route a way (there 0 a refl)) (none_along others ways (λ i b at. there (suc i) b at))

    pub no_more_routes : (ways : List (List Request)) → all_routes enforced ps from targets arrivals arrivals ways ≡ []
    no_more_routes ways = none_along arrivals ways (reached_here arrivals)

-- one route more, where one arrival more is
pub route_more : (e : Bool) (ps : List Policy) (from : Label) (targets : Option (List Label)) (but arrivals : List Arrival) (ways : List (List Request))
    (n : ℕ) → length ways ≡ length arrivals
    → all_routes e ps from targets but (take (suc n) arrivals) ways
    ≡ all_routes e ps from targets but (take n arrivals) ways ++ route_if e ps from targets but (slice_get arrivals n) (way_at ways n)
route_more e ps from targets but [] ways zero long = refl
route_more e ps from targets but [] ways (suc n) long = refl
route_more e ps from targets but (a ∷ arrivals) [] n long = absurd (omega (arith, long))
route_more e ps from targets but (a ∷ arrivals) (way ∷ ways) zero long = append-nil (route_to e ps from targets but a way)
route_more e ps from targets but (a ∷ arrivals) (way ∷ ways) (suc n) long =
    let one : List Routed = route_to e ps from targets but a way in
    ap (λ (rs : List Routed). one ++ rs) (route_more e ps from targets but arrivals ways n (omega (arith, long)))
    ∙ sym (append_assoc one (all_routes e ps from targets but (take n arrivals) ways) (route_if e ps from targets but (slice_get arrivals n) (way_at ways n)))

-- what is told of slices is told of the lists
pub routes_of : (e : Bool) (ps : List Policy) (from : Label) (targets : Option (List Label)) (others but lent found : List Arrival) (routes : List Routed)
    → others ≡ but → lent ≡ found
    → ((ways : List (List Request)) → LeadThere e ps from lent ways → routes ≡ all_routes e ps from targets others lent ways)
    → (ways : List (List Request)) → LeadThere e ps from found ways → routes ≡ all_routes e ps from targets but found ways
routes_of e ps from targets others but lent found routes same is told =
    subst (λ (xs : List Arrival). (ways : List (List Request)) → LeadThere e ps from xs ways → routes ≡ all_routes e ps from targets but xs ways) is
    (subst (λ (os : List Arrival). (ways : List (List Request)) → LeadThere e ps from lent ways → routes ≡ all_routes e ps from targets os lent ways) same told)

-- the answer by what two searches find
module _ (counts e : Bool) (ps : List Policy) (sk : List Skipped) (limit : ℕ) (from : Label) (targets : Option (List Label))
    (clean : IsSearched true e ps sk limit from) (all : IsSearched false e ps sk limit from)
    (routes others : List Routed) (bars more_bars : List Barred) (doubts more_doubts : List Doubted) where
  abbrev first : List Routed
  first = all_routes e ps from targets [] clean.arrivals clean.are.ways

  abbrev rest : List Routed
  rest = all_routes e ps from targets clean.arrivals all.arrivals all.are.ways

  pub told_by : (now : List Routed) (now_bars : List Barred) (apart : List Routed) (apart_bars : List Barred) (apart_doubts : List Doubted)
      → ((ways : List (List Request)) → LeadThere e ps from clean.arrivals ways → routes ≡ all_routes e ps from targets [] clean.arrivals ways)
      → others ≡ rest
      → bars ≡ flat_map (barred_but ps []) clean.untold → more_bars ≡ flat_map (barred_but ps clean.untold) all.untold
      → doubts ≡ flat_map (doubted_but ps sk []) clean.arrivals → more_doubts ≡ flat_map (doubted_but ps sk clean.arrivals) all.arrivals
      → now ≡ routes ++ (if counts then others else []) → now_bars ≡ bars ++ (if counts then more_bars else [])
      → apart ≡ (if counts then [] else others) → apart_bars ≡ (if counts then [] else more_bars)
      → apart_doubts ≡ (if counts then [] else more_doubts)
      → AreRoutes counts e ps sk limit from targets now now_bars (doubts ++ (if counts then more_doubts else [])) apart apart_bars apart_doubts
  told_by now now_bars apart apart_bars apart_doubts r o b mb d md is bars_is apart_is apart_bars_is apart_doubts_is =
      let r_is : routes ≡ first = r clean.are.ways (found_there true e ps sk from clean.arrivals clean.untold clean.are) in
      record {
        clean = clean;
        all = all;
        told =
            is ∙ ap (λ (xs : List Routed). xs ++ (if counts then others else [])) r_is
            ∙ ap (λ (xs : List Routed). first ++ (if counts then xs else [])) o;
        apart_are = apart_is ∙ ap (λ (xs : List Routed). if counts then [] else xs) o;
        bars_are =
            bars_is ∙ ap (λ (xs : List Barred). xs ++ (if counts then more_bars else [])) b
            ∙ ap (λ (xs : List Barred). flat_map (barred_but ps []) clean.untold ++ (if counts then xs else [])) mb;
        doubts_are =
            ap (λ (xs : List Doubted). xs ++ (if counts then more_doubts else [])) d
            ∙ ap (λ (xs : List Doubted). flat_map (doubted_but ps sk []) clean.arrivals ++ (if counts then xs else [])) md;
        apart_bars_are = apart_bars_is ∙ ap (λ (xs : List Barred). if counts then [] else xs) mb;
        apart_doubts_are = apart_doubts_is ∙ ap (λ (xs : List Doubted). if counts then [] else xs) md;
      }

-- ---- one request

no_ways : (e : Bool) (ps : List Policy) (from : Label) → LeadThere e ps from [] []
no_ways e ps from = record {
  are = record { many = refl; each = λ i a at. absurd (omega (arith, slice_get_within [] i a at)) };
  lead = λ i a at. absurd (omega (arith, slice_get_within [] i a at));
}

-- none have lists of requests
pub none_have_ways : HaveWays []
none_have_ways = ([], record { many = refl; each = λ i a at. absurd (omega (arith, slice_get_within [] i a at)) })

-- arrivals that count have lists of requests
pub ways_if : (counts : Bool) (all others : List Arrival) → others ≡ (if counts then all else []) → HaveWays all → HaveWays others
ways_if true all others is have = subst HaveWays (sym is) have
ways_if false all others is have =
    subst HaveWays (sym is) none_have_ways

module _ (counts e : Bool) (ps : List Policy) (sk : List Skipped) (limit : ℕ) (from : Label) where
  apart_if : (b : Bool) (clean all others : List Arrival) (are : AreFoundNear false e ps sk from all) (apart : List Routed) → others ≡ (if b then all else [])
      → ((ways : List (List Request)) → LeadThere e ps from others ways → apart ≡ all_routes e ps from None clean others ways)
      → apart ≡ (if b then all_routes e ps from None clean all are.ways else [])
  apart_if true clean all others are apart is told =
      subst (λ (xs : List Arrival). (ways : List (List Request)) → LeadThere e ps from xs ways → apart ≡ all_routes e ps from None clean xs ways) is told
      are.ways (near_there false e ps sk from all are)
  apart_if false clean all others are apart is told =
      subst (λ (xs : List Arrival). (ways : List (List Request)) → LeadThere e ps from xs ways → apart ≡ all_routes e ps from None clean xs ways) is told
      [] (no_ways e ps from)

  pub edges_both : (clean all lent others : List Arrival) (routes : List Routed) (bars : List Barred) (apart : List Routed)
      → AreFoundNear true e ps sk from clean → AreFoundNear false e ps sk from all → (HaveManyPatternsAt ps from → ⊥) → lent ≡ clean
      → others ≡ (if counts then all else [])
      → ((ways : List (List Request)) → LeadThere e ps from lent ways → routes ≡ all_routes e ps from None [] lent ways)
      → ((ways : List (List Request)) → LeadThere e ps from others ways → apart ≡ all_routes e ps from None lent others ways) → bars ≡ []
      → AreEdges counts e ps sk limit from routes bars apart
  edges_both clean all lent others routes bars apart are near few same is told more none =
      Edges clean all are near few
      (subst (λ (xs : List Arrival). (ways : List (List Request)) → LeadThere e ps from xs ways → routes ≡ all_routes e ps from None [] xs ways) same told
      are.ways (near_there true e ps sk from clean are))
      (apart_if counts clean all others near apart is
      (subst (λ (xs : List Arrival). (ways : List (List Request)) → LeadThere e ps from others ways → apart ≡ all_routes e ps from None xs others ways) same
      more))
      none

  no_others : (b : Bool) (all : List Arrival) (ways : List (List Request)) → [] ≡ (if b then all_routes e ps from None all all ways else [])
  no_others true all ways = sym (no_more_routes ps e from None all ways)
  no_others false all ways = refl

  -- where all are at clean paths
  pub edges_alone : (all : List Arrival) (routes : List Routed) (bars : List Barred) (apart : List Routed) → list_all has_clean_step all ≡ true
      → AreFoundNear false e ps sk from all → (HaveManyPatternsAt ps from → ⊥)
      → ((ways : List (List Request)) → LeadThere e ps from all ways → routes ≡ all_routes e ps from None [] all ways)
      → ((ways : List (List Request)) → LeadThere e ps from [] ways → apart ≡ all_routes e ps from None all [] ways) → bars ≡ []
      → AreEdges counts e ps sk limit from routes bars apart
  edges_alone all routes bars apart clean near few told more none =
      let are = near_clean e ps sk from all clean near in
      Edges all all are near few (told are.ways (near_there true e ps sk from all are)) (more [] (no_ways e ps from) ∙ no_others counts all near.ways)
      none

-- why it isn't told where all paths count is why it isn't where clean ones alone do
pub why_clean : (ps : List Policy) (limit : ℕ) (l : Label) (why : Why) → IsWhyFor false ps limit l why → IsWhyFor true ps limit l why
why_clean ps limit l TooManyPatterns is =
    ⊎_elim (λ (paths : most_patterns < length (deciding ps l)). inl (omega (arith, paths)))
    (λ (names : most_patterns < many_name_patterns ps l). inr names) is
why_clean ps limit l TooManyStates is =
    ⊎_elim (λ (paths : HavePathPlacesFor false ps l (limit + 1)). inl (inl paths)) (λ (names : HaveNamePlaces ps l (limit + 1)). inr names) is

-- none, where it isn't told where one leads
pub no_edges_told : {E : Type 0} (counts enforced : Bool) (ps : List Policy) (skipped : List Skipped) (limit : ℕ) (from : Label) (why : Why)
    (r : Result Answer E) → IsWhyFor true ps limit from why → IfOk r (λ a. a.routes.items ≡ []) → IfOk r (λ a. a.unclean.routes.items ≡ [])
    → IfOk r (λ a. map barred a.bars.items ≡ record { at = name_of ps from; why = why } ∷ [])
    → IfOk r (λ a. AreEdges counts enforced ps skipped limit from (map routed a.routes.items) (map barred a.bars.items) (map routed a.unclean.routes.items))
no_edges_told counts enforced ps skipped limit from why (Ok a) is none apart bars =
    NoEdges why is (ap (map routed) none) (ap (map routed) apart) bars
no_edges_told counts enforced ps skipped limit from why (Err e) is none apart bars = tt
