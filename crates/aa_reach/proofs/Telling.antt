-- Routes that are told one after another.
use Rattle.std.proofs.Common.{◌≡◌, ℕ, List, [], ◌∷◌, ◌++◌, map, Bool, true, false, cond}
use Rattle.std.proofs.Common.{if◌then◌else◌, Option, Some, None}
use Rattle.std.proofs.Common.{refl, sym, ap, ◌∙◌, subst, append-nil}
use Rattle.std.specs.List.{list_all}
use Rattle.std.proofs.lemmas.List.{map-append}
use Rattle.aa_unclean_paths.specs.Requests.{is_at_unclean_path}
use Rattle.aa_model.specs.declared.policy.Policy.{Policy}
use Rattle.aa_model.specs.declared.label.Label.{Label}
use Rattle.aa_model.specs.declared.request.Request.{Request}
use Rattle.aa_model.specs.declared.request.Request.TheVariants.{File, Link, Exec, Cap, Net, Change, Reload}
use Rattle.aa_model.specs.Requests.{RequestedExec}
use Rattle.aa_mediate.specs.Reply.{reply}
use Rattle.aa_reachability.specs.declared.trail.Arrival.{Arrival}
use Rattle.aa_reachability.specs.declared.reached.Untold.{Untold}
use Rattle.aa_reachability.specs.declared.beside.Course.{Course}
use Rattle.aa_reachability.specs.Moves.{label_going, is_left_out}
use Rattle.aa_reachability.specs.Reach.{IsOpen, PassBy, AreTold, led_by, way_at}
use Rattle.aa_reachability.specs.Beside.{is_doubted, label_decided, label_taken, HoldAlong, IsSure, AreArrivalsBeside, AreNearBeside}
use Rattle.aa_reachability.specs.Course.{label_on, IsSureOn, IsTakenOn}
use Rattle.aa_reachability.specs.Clean.{has_clean_step}
use Rattle.aa_reachability.proofs.Cleaning.{clean_arrivals, clean_near}
use Rattle.aa_skipping.specs.declared.unread.Unread.{Unread}
use Rattle.aa_skipped.specs.declared.skipped.Skipped.{Skipped}
use Rattle.aa_undecided.specs.Holding.{unreads}
use Rattle.aa_reach.specs.declared.beside.Beside.{Beside}
use Rattle.aa_reach.specs.Doubts.{IsShut, IsTaken, IsBeside}
use Rattle.aa_reach.specs.declared.routes.Route.{Route}
use Rattle.aa_reach.specs.Names.{Name, name_in, name_of}
use Rattle.aa_reach.specs.Routes.{Turned, Routed, as_others, is_alike, turned, plain, turns_by, LeadThere, routed, is_wanted}
use Rattle.aa_reach.specs.Routes.{route_to, route_if, AreFound, AreFoundNear}

-- what is no execution is asked as it is
pub kept_as_is : (r : Request) → ((e : RequestedExec) → r ≡ Exec e → ⊥) → as_others r ≡ r
kept_as_is (Exec e) isnt = absurd (isnt e refl)
kept_as_is (File f) isnt = refl
kept_as_is (Link l) isnt = refl
kept_as_is (Cap c) isnt = refl
kept_as_is (Net f s) isnt = refl
kept_as_is (Change name) isnt = refl
kept_as_is (Reload m) isnt = refl

pub plain_as_is : (ps : List Policy) (l : Label) (r : Request) → ((e : RequestedExec) → r ≡ Exec e → ⊥) → plain ps l r ≡ r
plain_as_is ps l r isnt = at (is_alike (reply ps l (as_others r)) (reply ps l r))
  where
    at : (b : Bool) → (if b then as_others r else r) ≡ r
    at true = kept_as_is r isnt
    at false = refl

-- one route more
route_added : (enforced : Bool) (ps : List Policy) (from : Label) (targets : Option (List Label)) (but : List Arrival) (a : Arrival) (way : List Request)
    (old now : List Route) (r : Route) → now ≡ old ++ r ∷ [] → is_wanted from targets but a.label ≡ true → name_in r.to ≡ name_of ps a.label
    → map turned r.turns.items ≡ turns_by enforced ps from way → map routed now ≡ map routed old ++ route_to enforced ps from targets but a way
route_added enforced ps from targets but a way old now r more wanted to turns =
    let is : routed r ≡ record { to = name_of ps a.label; turns = turns_by enforced ps from way } =
    ap (λ (n : Name). record { to = n; turns = map turned r.turns.items }) to
    ∙ ap (λ (ts : List Turned). record { to = name_of ps a.label; turns = ts }) turns in
    let one : List Routed = record { to = name_of ps a.label; turns = turns_by enforced ps from way } ∷ [] in
    ap (λ (rs : List Route). map routed rs) more ∙ map-append routed old (r ∷ [])
    ∙ ap (λ (x : Routed). map routed old ++ x ∷ []) is
    ∙ ap (λ (b : Bool). map routed old ++ (if b then one else [])) (sym wanted)

-- so of an arrival that is there
pub route_found : (enforced : Bool) (ps : List Policy) (from : Label) (targets : Option (List Label)) (but : List Arrival) (o : Option Arrival) (a : Arrival)
    (way : List Request) (old now : List Route) (r : Route) → o ≡ Some a → now ≡ old ++ r ∷ [] → is_wanted from targets but a.label ≡ true
    → name_in r.to ≡ name_of ps a.label → map turned r.turns.items ≡ turns_by enforced ps from way
    → map routed now ≡ map routed old ++ route_if enforced ps from targets but o way
route_found enforced ps from targets but o a way old now r there more wanted to turns =
    subst (λ (x : Option Arrival). map routed now ≡ map routed old ++ route_if enforced ps from targets but x way) (sym there)
    (route_added enforced ps from targets but a way old now r more wanted to turns)

-- none more, where the arrival isn't wanted
pub route_left : (enforced : Bool) (ps : List Policy) (from : Label) (targets : Option (List Label)) (but : List Arrival) (o : Option Arrival) (a : Arrival)
    (way : List Request) (old : List Routed) → o ≡ Some a → is_wanted from targets but a.label ≡ false
    → old ≡ old ++ route_if enforced ps from targets but o way
route_left enforced ps from targets but o a way old there unwanted =
    let one : List Routed = record { to = name_of ps a.label; turns = turns_by enforced ps from way } ∷ [] in
    subst (λ (x : Option Arrival). old ≡ old ++ route_if enforced ps from targets but x way) (sym there)
    (subst (λ (b : Bool). old ≡ old ++ (if b then one else [])) (sym unwanted) (sym (append-nil old)))

-- none more, where there is no arrival
pub route_none : (enforced : Bool) (ps : List Policy) (from : Label) (targets : Option (List Label)) (but : List Arrival) (o : Option Arrival) (way : List Request)
    (old : List Routed) → o ≡ None → old ≡ old ++ route_if enforced ps from targets but o way
route_none enforced ps from targets but o way old none =
    subst (λ (x : Option Arrival). old ≡ old ++ route_if enforced ps from targets but x way) (sym none) (sym (append-nil old))

-- requests that lead on beside skipped files lead so by the policy that is read
led_taken : (clean enforced : Bool) (ps : List Policy) (us : List Unread) (l : Label) (rs : List Request)
    → HoldAlong (label_taken clean enforced ps us) (λ m r. (is_doubted ps us m r ≡ false) × (is_left_out clean r ≡ false)) l rs
    → led_by (label_going enforced ps) l rs ≡ led_by (label_taken clean enforced ps us) l rs
led_taken clean enforced ps us l [] all = refl
led_taken clean enforced ps us l (r ∷ rs) all =
    let is : label_taken clean enforced ps us l r ≡ label_going enforced ps l r =
    ap (λ (b : Bool). cond b l (label_decided enforced ps us l r)) all.0.1 ∙ ap (λ (b : Bool). cond b l (label_going enforced ps l r)) all.0.0 in
    ap (λ (m : Label). led_by (label_going enforced ps) m rs) (sym is) ∙ led_taken clean enforced ps us (label_taken clean enforced ps us l r) rs all.1

-- beside these files
module _ (b : Beside) (is : IsBeside b) (clean : Bool) where
  abbrev e : Bool
  e = b.course.going.as_enforced

  abbrev ps : List Policy
  ps = b.course.going.policies.now

  abbrev sk : List Skipped
  sk = b.skipped.now

  abbrev course : Course
  course = record { going = b.course.going; unreads = b.course.unreads; openings = b.course.openings; only_clean = clean }

  pass_on : (go : Label → Request → Label) (untold : List Untold) (l : Label) (rs : List Request) → PassBy go (IsSure untold (IsShut ps sk)) l rs
      → PassBy go (IsSure untold (IsSureOn b.course)) l rs
  pass_on go untold l [] pass = tt
  pass_on go untold l (r ∷ rs) pass = ((pass.0.0, is.shut l pass.0.1), pass_on go untold (go l r) rs pass.1)

  told_on : (go : Label → Request → Label) (untold : List Untold) (from : Label) (rs : List Request) → AreTold go (IsSure untold (IsShut ps sk)) from rs
      → AreTold go (IsSure untold (IsSureOn b.course)) from rs
  told_on go untold from rs told = record { asked = told.asked; pass = pass_on go untold from rs told.pass }

  -- what goes on by a course goes on beside the files
  abbrev Taken : List Unread → Label → Request → Type 0
  Taken us l r = (is_doubted ps us l r ≡ false) × (is_left_out clean r ≡ false)

  abbrev FoundBy : List Unread → List Untold → Label → List Arrival → Type 0
  FoundBy us untold from arrivals =
      AreArrivalsBeside (label_taken clean e ps us) (IsOpen untold) (IsSure untold (IsSureOn b.course)) (Taken us) from arrivals

  abbrev NearBy : List Unread → Label → List Arrival → Type 0
  NearBy us from arrivals = AreNearBeside (label_taken clean e ps us) (IsSureOn b.course) (Taken us) from arrivals

  found_at : (untold : List Untold) (from : Label) (arrivals : List Arrival) → FoundBy (unreads sk) untold from arrivals
      → AreFound clean e ps sk untold from arrivals
  found_at untold from arrivals are =
      let go = label_taken clean e ps (unreads sk) in
      record {
        ways = are.ways;
        are = are.are;
        each = λ i a at.
            let it = are.each i a at in
            record {
              told = it.told;
              kept = it.kept;
              leads = it.leads;
              long = it.long;
              shortest = λ rs told leads. it.shortest rs (told_on go untold from rs told) leads;
            };
        all = λ rs told. are.all rs (told_on go untold from rs told);
        once = are.once;
        rising = are.rising;
      }

  pub found_beside : (untold : List Untold) (from : Label) (arrivals : List Arrival)
      → AreArrivalsBeside (label_on course) (IsOpen untold) (IsSure untold (IsSureOn course)) (IsTakenOn course) from arrivals
      → AreFound clean e ps sk untold from arrivals
  unfolding label_on
  found_beside untold from arrivals are = found_at untold from arrivals (subst (λ (us : List Unread). FoundBy us untold from arrivals) is.unread are)

  near_at : (from : Label) (arrivals : List Arrival) → NearBy (unreads sk) from arrivals → AreFoundNear clean e ps sk from arrivals
  near_at from arrivals are = record {
    ways = are.ways;
    are = are.are;
    first = are.first;
    each = are.each;
    kept = are.kept;
    all = λ shut. are.all (is.shut from shut);
    shortest = λ shut. are.shortest (is.shut from shut);
    once = are.once;
  }

  pub near_found : (from : Label) (arrivals : List Arrival) → AreNearBeside (label_on course) (IsSureOn course) (IsTakenOn course) from arrivals
      → AreFoundNear clean e ps sk from arrivals
  unfolding label_on
  near_found from arrivals are = near_at from arrivals (subst (λ (us : List Unread). NearBy us from arrivals) is.unread are)

-- what is found leads there by the policy that is read
module _ (clean e : Bool) (ps : List Policy) (sk : List Skipped) (from : Label) (arrivals : List Arrival) where
  pub found_there : (untold : List Untold) (are : AreFound clean e ps sk untold from arrivals) → LeadThere e ps from arrivals are.ways
  found_there untold are = record {
    are = are.are;
    lead = λ i a at.
        let it = are.each i a at in
        led_taken clean e ps (unreads sk) from (way_at are.ways i) it.kept ∙ it.leads;
  }

  pub near_there : (are : AreFoundNear clean e ps sk from arrivals) → LeadThere e ps from arrivals are.ways
  near_there are = record {
    are = are.are;
    lead = λ i a at. led_taken clean e ps (unreads sk) from (way_at are.ways i) (are.kept i a at) ∙ (are.each i a at).leads;
  }

-- ---- clean paths alone, where all are clean

module _ (e : Bool) (ps : List Policy) (sk : List Skipped) (from : Label) (arrivals : List Arrival) (all : list_all has_clean_step arrivals ≡ true) where
  abbrev go : Label → Request → Label
  go = label_decided e ps (unreads sk)

  so : (l : Label) (r : Request) → IsTaken false ps sk l r → is_at_unclean_path r ≡ false → IsTaken true ps sk l r
  so l r taken clean = (taken.0, clean)

  pub found_clean : (untold : List Untold) → AreFound false e ps sk untold from arrivals → AreFound true e ps sk untold from arrivals
  found_clean untold are =
      clean_arrivals arrivals all go (IsOpen untold) (IsSure untold (IsShut ps sk)) (IsTaken false ps sk) (IsTaken true ps sk) so from are

  pub near_clean : AreFoundNear false e ps sk from arrivals → AreFoundNear true e ps sk from arrivals
  near_clean near =
      clean_near arrivals all go (λ l. IsShut ps sk l) (IsShut ps sk) (IsTaken false ps sk) (IsTaken true ps sk) so from near
