-- Where complain mode moves no task all is found as by the policies without complain flags.
use Rattle.std.proofs.Common.{◌≡◌, ◌<◌, ◌≤◌, ℕ, ◌+◌, List, [], ◌∷◌, ◌++◌, length, Bool, true, false, cond, Option, Some, None, refl, sym, ap, subst, ◌∙◌, inl, inr, ⊎_elim}
use Rattle.std.specs.Option.{option_map_or}
use Rattle.std.specs.Prelude.{option_map}
use Rattle.std.specs.List.{slice_get}
use Rattle.std.proofs.Math.Path.{fun_ext}
use Rattle.aa_pattern.specs.declared.pattern.Pattern.{Pattern}
use Rattle.aa_pattern.specs.Limits.{most_patterns}
use Rattle.aa_auto.specs.Tables.{HasPlaces}
use Rattle.aa_model.specs.declared.policy.Policy.{Policy}
use Rattle.aa_model.specs.declared.policy.Profile.{Profile}
use Rattle.aa_model.specs.declared.label.Label.{Label}
use Rattle.aa_model.specs.declared.request.Request.{Request}
use Rattle.aa_model.specs.declared.answer.Note.{Note}
use Rattle.aa_model.specs.declared.answer.NoteWord.{NoteWord}
use Rattle.aa_model.specs.declared.answer.NoteWord.TheVariants.{Denied, Allowed, Audit}
use Rattle.aa_mediate.specs.Reply.{reply}
use Rattle.aa_ask.specs.Verdicts.{says_allowed}
use Rattle.aa_unclean_paths.specs.Told.{TellsUnclean}
use Rattle.aa_representatives.specs.Alike.{deciding, changing}
use Rattle.aa_representatives.specs.Askable.{IsAskable}
use Rattle.aa_representatives.specs.Names.{told_apart, profiles_at, ArePatternsOf, AreNamePatterns, many_name_patterns, HaveNamePlaces}
use Rattle.aa_reachability.specs.declared.reached.Untold.{Untold}
use Rattle.aa_reachability.specs.declared.reached.Why.{Why}
use Rattle.aa_reachability.specs.declared.reached.Why.TheVariants.{TooManyPatterns, TooManyStates}
use Rattle.aa_reachability.specs.declared.trail.Arrival.{Arrival}
use Rattle.aa_reachability.specs.declared.trail.Step.{Step}
use Rattle.aa_reachability.specs.Order.{IsNoLater}
use Rattle.aa_reachability.specs.Moves.{says_allowed as allows, label_next, label_going, is_left_out, MatchesAll, HaveManyPatternsAt, HaveManyPathsFor, HavePathPlacesFor, IsWhyFor}
use Rattle.aa_reachability.specs.Reach.{led_by, way_at, AreTold, IsNear, IsOpen, AreUntoldFor}
use Rattle.aa_reachability.specs.Beside.{is_doubted, label_decided, label_taken, HoldAlong, IsSure, IsShortestBeside}
use Rattle.aa_who.specs.Enforced.{AreEnforcing}
use Rattle.aa_who.proofs.Enforcing.{answers_enforced, profiles_in, cleared_in, by_profiles, deciding_same, changing_same, apart_same}
use Rattle.aa_reach.specs.Doubts.{is_opened_in, is_opened}
use Rattle.aa_reach.specs.Routes.{AreFound, IsSearched, AreFoundNear}
use Rattle.aa_reach.specs.Enforced.{StepsEnforced, SearchesEnforced, EdgesEnforced}

same_note : (o : Option Note) → option_map_or (λ (n : Note). allows n.word) o false ≡ option_map_or (λ (n : Note). says_allowed n.word) o false
same_note None = refl
same_note (Some n) = at n.word
  where
    at : (w : NoteWord) → allows w ≡ says_allowed w
    at Denied = refl
    at Allowed = refl
    at Audit = refl

-- no file is skipped that could decide a request
none_doubted : (ps : List Policy) (l : Label) (r : Request) → is_doubted ps [] l r ≡ false
unfolding is_doubted
none_doubted ps l r = at (slice_get ps 0)
  where
    at : (o : Option Policy) → option_map_or (λ (p : Policy). false) o false ≡ false
    at None = refl
    at (Some p) = refl

-- the patterns on paths or names are as many, and tell as much apart
many_paths : (clean : Bool) (ps qs : List Policy) (l : Label) → deciding ps l ≡ deciding qs l → HaveManyPathsFor clean ps l → HaveManyPathsFor clean qs l
many_paths false ps qs l same h = subst (λ (xs : List Pattern). most_patterns < length xs) same h
many_paths true ps qs l same h = subst (λ (xs : List Pattern). most_patterns < length xs + 2) same h

path_places : (clean : Bool) (ps qs : List Policy) (l : Label) (n : ℕ) → deciding ps l ≡ deciding qs l → HavePathPlacesFor clean ps l n
    → HavePathPlacesFor clean qs l n
path_places false ps qs l n same h = subst (λ (xs : List Pattern). HasPlaces xs n) same h
path_places true ps qs l n same h =
    ⊎_elim (λ (places : HasPlaces (deciding ps l) n). inl (subst (λ (xs : List Pattern). HasPlaces xs n) same places))
    (λ (places : (p q : Pattern) × TellsUnclean p × MatchesAll q × HasPlaces (p ∷ deciding ps l ++ q ∷ []) n).
    inr (
      places.0,
      places.1,
      places.2,
      places.3,
      subst (λ (xs : List Pattern). HasPlaces (places.0 ∷ xs ++ places.1 ∷ []) n) same places.4,
    )) h

name_places : (ps qs : List Policy) (l : Label) (n : ℕ) → changing ps l ≡ changing qs l → told_apart (profiles_at ps l) ≡ told_apart (profiles_at qs l)
    → HaveNamePlaces ps l n → HaveNamePlaces qs l n
name_places ps qs l n changes names h = (
  h.0,
  record {
    names = h.1.names;
    are = h.1.are ∙ ap (λ (xs : List Pattern). xs ++ h.1.names) changes;
    literal = subst (λ (texts : List (List ℕ)). ArePatternsOf texts h.1.names) names h.1.literal;
  },
  h.2,
)

module _ (ps qs : List Policy) (are : AreEnforcing ps qs) where
  next_same : (l : Label) (r : Request) → label_going true ps l r ≡ label_next qs l r
  next_same l r =
      let e = answers_enforced ps qs are l r in
      ap (λ (c : Bool). cond c l (reply ps l r).label) (same_note (reply ps l r).note) ∙ sym e.label

  plainly : (enforced : Bool) (l : Label) (r : Request) → label_going enforced qs l r ≡ label_next qs l r
  plainly false l r = refl
  plainly true l r =
      let e = answers_enforced ps qs are l r in
      ap (λ (c : Bool). cond c l (reply qs l r).label) (same_note (reply qs l r).note ∙ e.plain)

  decided_same : (l : Label) (r : Request) → label_decided true ps [] l r ≡ label_decided false qs [] l r
  decided_same l r =
      ap (λ (c : Bool). cond c l (label_going true ps l r)) (none_doubted ps l r) ∙ next_same l r
      ∙ sym (ap (λ (c : Bool). cond c l (label_next qs l r)) (none_doubted qs l r))

  taken_same : (clean : Bool) → label_taken clean true ps [] ≡ label_taken clean false qs []
  taken_same clean = fun_ext (λ l. fun_ext (λ r. ap (λ (m : Label). cond (is_left_out clean r) l m) (decided_same l r)))

  doubted_same : is_doubted ps [] ≡ is_doubted qs []
  doubted_same = fun_ext (λ l. fun_ext (λ r. none_doubted ps l r ∙ sym (none_doubted qs l r)))

  opened_at : (l : Label) → is_opened qs [] l ≡ is_opened ps [] l
  unfolding is_opened
  opened_at l = by_profiles ps qs are (λ (o : Option Policy). option_map_or (is_opened_in [] l) o true)
      (λ (o : Option (List Profile)). option_map_or (λ (xs : List Profile). false) o true) is same 0
    where
      is : (o : Option Policy) → option_map_or (is_opened_in [] l) o true ≡ option_map_or (λ (xs : List Profile). false) (option_map profiles_in o) true
      is None = refl
      is (Some p) = refl

      same : (o : Option Policy) → option_map_or (λ (xs : List Profile). false) (option_map cleared_in o) true ≡ option_map_or (is_opened_in [] l) o true
      same None = refl
      same (Some p) = refl

  opened_same : is_opened ps [] ≡ is_opened qs []
  opened_same = fun_ext (λ l. sym (opened_at l))

  -- what is said of where requests lead, of which labels files are skipped that could decide there, and which requests they could
  said_too : (clean : Bool) (Says : (Label → Request → Label) → (Label → Bool) → (Label → Request → Bool) → Type 0)
      → Says (label_taken clean true ps []) (is_opened ps []) (is_doubted ps []) → Says (label_taken clean false qs []) (is_opened qs []) (is_doubted qs [])
  said_too clean Says h =
      subst (λ (doubted : Label → Request → Bool). Says (label_taken clean false qs []) (is_opened qs []) doubted) doubted_same
      (subst (λ (opened : Label → Bool). Says (label_taken clean false qs []) opened (is_doubted ps [])) opened_same
      (subst (λ (go : Label → Request → Label). Says go (is_opened ps []) (is_doubted ps [])) (taken_same clean) h))

  many_names : (l : Label) → many_name_patterns ps l ≡ many_name_patterns qs l
  many_names l =
      ap (λ (xs : List Pattern). length xs + length (told_apart (profiles_at ps l))) (sym (changing_same ps qs are l))
      ∙ ap (λ (names : List (List ℕ)). length (changing qs l) + length names) (sym (apart_same ps qs are l))

  why_too : (clean : Bool) (limit : ℕ) (l : Label) (why : Why) → IsWhyFor clean ps limit l why → IsWhyFor clean qs limit l why
  why_too clean limit l TooManyPatterns h =
      ⊎_elim (λ (paths : HaveManyPathsFor clean ps l). inl (many_paths clean ps qs l (sym (deciding_same ps qs are l)) paths))
      (λ (names : most_patterns < many_name_patterns ps l). inr (subst (λ (n : ℕ). most_patterns < n) (many_names l) names)) h
  why_too clean limit l TooManyStates h =
      ⊎_elim
      (λ (paths : HavePathPlacesFor clean ps l (limit + 1)). inl (path_places clean ps qs l (limit + 1) (sym (deciding_same ps qs are l)) paths))
      (λ (names : HaveNamePlaces ps l (limit + 1)).
      inr (name_places ps qs l (limit + 1) (sym (changing_same ps qs are l)) (sym (apart_same ps qs are l)) names)) h

  many_back : (l : Label) → HaveManyPatternsAt qs l → HaveManyPatternsAt ps l
  many_back l h =
      ⊎_elim
      (λ (paths : most_patterns < length (deciding qs l)).
      inl (subst (λ (xs : List Pattern). most_patterns < length xs) (deciding_same ps qs are l) paths))
      (λ (names : most_patterns < many_name_patterns qs l). inr (subst (λ (n : ℕ). most_patterns < n) (sym (many_names l)) names)) h

  untold_too : (clean : Bool) (limit : ℕ) (arrivals : List Arrival) (untold : List Untold) → AreUntoldFor clean ps limit arrivals untold
      → AreUntoldFor clean qs limit arrivals untold
  untold_too clean limit arrivals untold h = record {
    each = λ u among. record {
      arrival = (h.each u among).arrival;
      there = (h.each u among).there;
      label = (h.each u among).label;
      why = why_too clean limit u.label u.why (h.each u among).why;
    };
    few = λ i a stands shut many. h.few i a stands shut (many_back a.label many);
    rising = h.rising;
  }

  module _ (clean : Bool) (from : Label) (arrivals : List Arrival) where
    abbrev found_too : (untold : List Untold) → AreFound clean true ps [] untold from arrivals → AreFound clean false qs [] untold from arrivals
    found_too untold h = record {
      ways = h.ways;
      are = h.are;
      each = said_too clean
          (λ go opened doubted. (i : ℕ) (a : Arrival) → slice_get arrivals i ≡ Some a
          → IsShortestBeside go (IsOpen untold) (IsSure untold (λ l. opened l ≡ false)) (λ l r. (doubted l r ≡ false) × (is_left_out clean r ≡ false)) from a
          (way_at h.ways i)) h.each;
      all = said_too clean
          (λ go opened doubted. (rs : List Request) → AreTold go (IsSure untold (λ l. opened l ≡ false)) from rs
          → (i : ℕ) × (a : Arrival) × (slice_get arrivals i ≡ Some a) × (a.label ≡ led_by go from rs)) h.all;
      once = h.once;
      rising = h.rising;
    }

    near_too : AreFoundNear clean true ps [] from arrivals → AreFoundNear clean false qs [] from arrivals
    near_too h = record {
      ways = h.ways;
      are = h.are;
      first = h.first;
      each = said_too clean (λ go opened doubted. (i : ℕ) (a : Arrival) → slice_get arrivals i ≡ Some a → IsNear go from a (way_at h.ways i)) h.each;
      kept = said_too clean
          (λ go opened doubted. (i : ℕ) (a : Arrival) → slice_get arrivals i ≡ Some a
          → HoldAlong go (λ l r. (doubted l r ≡ false) × (is_left_out clean r ≡ false)) from (way_at h.ways i)) h.kept;
      all = said_too clean
          (λ go opened doubted. opened from ≡ false → (r : Request) → IsAskable r
          → (i : ℕ) × (a : Arrival) × (slice_get arrivals i ≡ Some a) × (a.label ≡ go from r)) h.all;
      shortest = said_too clean
          (λ go opened doubted. opened from ≡ false → (i : ℕ) (a : Arrival) (step : Step) → slice_get arrivals i ≡ Some a → a.step ≡ Some step
          → (r : Request) → IsAskable r → go from r ≡ a.label → IsNoLater step.request r) h.shortest;
      once = h.once;
    }

pub steps_enforced : StepsEnforced
steps_enforced ps qs are enforced l r = (next_same ps qs are l r, plainly ps qs are enforced l r)

pub searches_enforced : SearchesEnforced
searches_enforced clean ps qs are limit from s = record {
  search = record {
    arrivals = s.arrivals;
    untold = s.untold;
    are = found_too ps qs are clean from s.arrivals s.untold s.are;
    are_untold = untold_too ps qs are clean limit s.arrivals s.untold s.are_untold;
  };
  arrivals = refl;
  ways = refl;
  untold = refl;
}

pub edges_enforced : EdgesEnforced
edges_enforced clean ps qs are from arrivals h = near_too ps qs are clean from arrivals h
