-- The labels that a task can get to, each with a shortest list of requests, as they are told.
-- Source: own.
use Rattle.std.specs.Prelude.{◌≡◌, ◌<◌, ℕ, List, [], ◌∷◌, ◌++◌, map, flat_map, length, Bool, true, false, not, ◌&&◌}
use Rattle.std.specs.Prelude.{if◌then◌else◌, Option, Some, None}
use Rattle.std.specs.List.{list_any, slice_get}
use Rattle.aa_model.specs.declared.policy.Policy.{Policy}
use Rattle.aa_model.specs.declared.label.Label.{Label}
use Rattle.aa_model.specs.declared.request.Request.{Request}
use Rattle.aa_model.specs.declared.request.Request.TheVariants.{Exec}
use Rattle.aa_model.specs.declared.answer.Answer.{Answer}
use Rattle.aa_mediate.specs.Reply.{reply}
use Rattle.aa_notation.specs.Kinds.{word_text}
use Rattle.aa_ask.specs.Told.{is_same}
use Rattle.aa_reachability.specs.declared.trail.Step.{Step}
use Rattle.aa_reachability.specs.declared.trail.Arrival.{Arrival}
use Rattle.aa_reachability.specs.declared.reached.Untold.{Untold}
use Rattle.aa_reachability.specs.declared.reached.Why.{Why}
use Rattle.aa_reachability.specs.Moves.{is_by_complain, label_going, HaveManyPatternsAt, IsWhyFor}
use Rattle.aa_reachability.specs.Reach.{IsOpen, AreWays, AreUntoldFor, led_by, way_at}
use Rattle.aa_reachability.specs.Beside.{label_taken, IsSure, AreArrivalsBeside, AreNearBeside}
use Rattle.aa_skipped.specs.declared.skipped.Skipped.{Skipped}
use Rattle.aa_undecided.specs.Holding.{unreads}
use Rattle.aa_reach.specs.declared.routes.Turn.{Turn}
use Rattle.aa_reach.specs.declared.routes.Route.{Route}
use Rattle.aa_reach.specs.declared.parts.Bar.{Bar}
use Rattle.aa_reach.specs.Names.{Name, name_in, name_of}
use Rattle.aa_reach.specs.declared.searching.Near.{Near}
use Rattle.aa_reach.specs.declared.searching.Near.TheVariants.{Told, NotTold}
use Rattle.aa_reach.specs.Doubts.{IsShut, IsTaken, Doubted, is_reached_by, doubted_but}

-- a request as one word, and whether it is granted by complain mode alone
pub record Turned : Type 0 where
  pub word : List ℕ
  pub complains : Bool

-- one, without where it lies in memory
abbrev pub turned : Turn → Turned
turned t = record { word = t.word.value.items; complains = t.complains }

-- to execute a file of others, where it is one of the task's user's; all else as it is
abbrev pub as_others : Request → Request
as_others (Exec r) = Exec (record { path = r.path; owned = false })
as_others r = r

-- two answers are granted by complain mode alone, or neither
abbrev pub is_granted_alike : Answer → Answer → Bool
is_granted_alike a b = if is_by_complain a then is_by_complain b else not (is_by_complain b)

-- and leave a task with one label
abbrev pub is_alike : Answer → Answer → Bool
is_alike a b = is_same a.label b.label && is_granted_alike a b

-- the request as others own the file, where that is answered alike
abbrev pub plain : List Policy → Label → Request → Request
plain ps l r = if is_alike (reply ps l (as_others r)) (reply ps l r) then as_others r else r

-- a request as it is told
abbrev pub turn_by : List Policy → Label → Request → Turned
turn_by ps l r = record { word = word_text r; complains = is_by_complain (reply ps l r) }

-- the requests of one task, one after another, from that label on
unfoldable pub turns_by : Bool → List Policy → Label → List Request → List Turned
turns_by enforced ps l [] = []
turns_by enforced ps l (r ∷ rs) = turn_by ps l (plain ps l r) ∷ turns_by enforced ps (label_going enforced ps l r) rs

-- a step goes on from one of the first n arrivals
abbrev pub IsStepWithin : ℕ → Option Step → Type 0
IsStepWithin n None = Unit {0}
IsStepWithin n (Some step) = step.from < n

-- the last request of a list as it is told, asked at the label of the arrival to which those before it lead
abbrev pub IsLast : List Policy → List Arrival → Option Step → Turn → Type 0
IsLast ps arrivals None t = Unit {0}
IsLast ps arrivals (Some step) t = (b : Arrival) → slice_get arrivals step.from ≡ Some b → turned t ≡ turn_by ps b.label (plain ps b.label step.request)

-- those of arrivals, one by one
pub record AreLasts (ps : List Policy) (arrivals : List Arrival) (lasts : List Turn) : Type 0 where
  pub many : length lasts ≡ length arrivals
  pub each : (i : ℕ) (a : Arrival) (t : Turn) → slice_get arrivals i ≡ Some a → slice_get lasts i ≡ Some t → IsLast ps arrivals a.step t

-- the lists of requests by which arrivals are got to, which lead to their labels
pub record LeadThere (enforced : Bool) (ps : List Policy) (from : Label) (arrivals : List Arrival) (ways : List (List Request)) : Type 0 where
  pub are : AreWays arrivals ways
  pub lead : (i : ℕ) (a : Arrival) → slice_get arrivals i ≡ Some a → led_by (label_going enforced ps) from (way_at ways i) ≡ a.label

-- a label, and requests that lead there
pub record Routed : Type 0 where
  pub to : Name
  pub turns : List Turned

-- one, without where it lies in memory
abbrev pub routed : Route → Routed
routed r = record { to = name_in r.to; turns = map turned r.turns.items }

-- the label is sought: it is one of those that are asked for, or where none are, another than that where the task begins
abbrev pub is_sought : Label → Option (List Label) → Label → Bool
is_sought from None l = not (is_same from l)
is_sought from (Some targets) l = list_any (is_same l) targets

-- it is wanted: it is sought, and none of these arrivals is there
abbrev pub is_wanted : Label → Option (List Label) → List Arrival → Label → Bool
is_wanted from targets but l = is_sought from targets l && not (is_reached_by but l)

-- the route to an arrival that is wanted
abbrev pub route_to : Bool → List Policy → Label → Option (List Label) → List Arrival → Arrival → List Request → List Routed
route_to enforced ps from targets but a way =
    if is_wanted from targets but a.label then record { to = name_of ps a.label; turns = turns_by enforced ps from way } ∷ [] else []

-- so to that one, if it is there
abbrev pub route_if : Bool → List Policy → Label → Option (List Label) → List Arrival → Option Arrival → List Request → List Routed
route_if enforced ps from targets but None way = []
route_if enforced ps from targets but (Some a) way = route_to enforced ps from targets but a way

-- those to all that are wanted, each by the list beside it
abbrev pub all_routes : Bool → List Policy → Label → Option (List Label) → List Arrival → List Arrival → List (List Request) → List Routed
all_routes enforced ps from targets but [] ways = []
all_routes enforced ps from targets but (a ∷ arrivals) [] = []
all_routes enforced ps from targets but (a ∷ arrivals) (way ∷ ways) =
    route_to enforced ps from targets but a way ++ all_routes enforced ps from targets but arrivals ways

-- a label from which it isn't told where requests lead on, and why
pub record Barred : Type 0 where
  pub at : Name
  pub why : Why

-- one, without where it lies in memory
abbrev pub barred : Bar → Barred
barred b = record { at = name_in b.at; why = b.why }

-- so of what was found
abbrev pub barred_by : List Policy → Untold → Barred
barred_by ps u = record { at = name_of ps u.label; why = u.why }

-- it isn't told from that label
abbrev pub is_untold_by : List Untold → Label → Bool
is_untold_by untold l = list_any (λ (u : Untold). is_same l u.label) untold

-- so of what was found, unless one of these is at that label
abbrev pub barred_but : List Policy → List Untold → Untold → List Barred
barred_but ps but u = if is_untold_by but u.label then [] else barred_by ps u ∷ []

-- beside files that are skipped a request that they could decide leads nowhere, and where clean paths alone count, one at an unclean path;
-- arrivals are at all labels to which requests lead on from labels at which such files could change nothing and of which it is told where
-- requests lead on
abbrev pub AreFound : Bool → Bool → List Policy → List Skipped → List Untold → Label → List Arrival → Type 0
AreFound clean enforced ps skipped untold from arrivals =
    AreArrivalsBeside (label_taken clean enforced ps (unreads skipped)) (IsOpen untold) (IsSure untold (IsShut ps skipped)) (IsTaken clean ps skipped) from
    arrivals

-- what a search finds: arrivals, and those from which it isn't told where requests lead on
pub record IsSearched (clean enforced : Bool) (ps : List Policy) (skipped : List Skipped) (limit : ℕ) (from : Label) : Type 0 where
  pub arrivals : List Arrival
  pub untold : List Untold
  pub are : AreFound clean enforced ps skipped untold from arrivals
  pub are_untold : AreUntoldFor clean ps limit arrivals untold

-- The routes to all labels that are wanted and to which requests at clean paths lead from that label that no skipped file could decide, one
-- each, with as few requests as lead there so (past labels that are named no more), those with fewer first: by the policies as they are, or
-- where what complain mode alone grants moves no task; the labels from which it isn't told where requests lead on; and those at which an
-- execution or a change could lead into skipped files. So none is left out to which requests at clean paths lead on from labels that aren't
-- named so. The routes to all others to which requests lead, some at unclean paths, stand behind them with what isn't told of these, where
-- unclean paths count, and else both stand apart.
pub record AreRoutes (counts enforced : Bool) (ps : List Policy) (skipped : List Skipped) (limit : ℕ) (from : Label) (targets : Option (List Label))
    (routes : List Routed) (bars : List Barred) (doubts : List Doubted) (apart : List Routed) (apart_bars : List Barred) (apart_doubts : List Doubted)
    : Type 0 where
  pub clean : IsSearched true enforced ps skipped limit from
  pub all : IsSearched false enforced ps skipped limit from
  pub told : routes
      ≡ all_routes enforced ps from targets [] clean.arrivals clean.are.ways
      ++ (if counts then all_routes enforced ps from targets clean.arrivals all.arrivals all.are.ways else [])
  pub apart_are : apart ≡ (if counts then [] else all_routes enforced ps from targets clean.arrivals all.arrivals all.are.ways)
  pub bars_are : bars ≡ flat_map (barred_but ps []) clean.untold ++ (if counts then flat_map (barred_but ps clean.untold) all.untold else [])
  pub doubts_are : doubts
      ≡ flat_map (doubted_but ps skipped []) clean.arrivals ++ (if counts then flat_map (doubted_but ps skipped clean.arrivals) all.arrivals else [])
  pub apart_bars_are : apart_bars ≡ (if counts then [] else flat_map (barred_but ps clean.untold) all.untold)
  pub apart_doubts_are : apart_doubts ≡ (if counts then [] else flat_map (doubted_but ps skipped clean.arrivals) all.arrivals)

-- arrivals at labels to which one request leads that counts and that no skipped file could decide: at all, each by a request before which
-- none such comes that leads there, where they could change nothing at that label
abbrev pub AreFoundNear : Bool → Bool → List Policy → List Skipped → Label → List Arrival → Type 0
AreFoundNear clean enforced ps skipped from arrivals =
    AreNearBeside (label_taken clean enforced ps (unreads skipped)) (IsShut ps skipped) (IsTaken clean ps skipped) from arrivals

-- it is found where one request leads, or isn't told
abbrev pub IsNearBy : Bool → Bool → List Policy → List Skipped → ℕ → Label → Near → Type 0
IsNearBy clean enforced ps skipped limit from (Told arrivals) = AreFoundNear clean enforced ps skipped from arrivals.items × (HaveManyPatternsAt ps from → ⊥)
IsNearBy clean enforced ps skipped limit from (NotTold why) = IsWhyFor clean ps limit from why

-- the routes of one request at a clean path to all other labels to which one leads so, and, where unclean paths count, apart those of one at
-- an unclean path to all others to which one leads; or it isn't told where one leads, and there are none
pub data AreEdges (counts enforced : Bool) (ps : List Policy) (skipped : List Skipped) (limit : ℕ) (from : Label) (routes : List Routed)
    (bars : List Barred) (apart : List Routed) : Type 0 where
  Edges : (clean all : List Arrival) → (are : AreFoundNear true enforced ps skipped from clean) → (others : AreFoundNear false enforced ps skipped from all)
      → (HaveManyPatternsAt ps from → ⊥) → routes ≡ all_routes enforced ps from None [] clean are.ways
      → apart ≡ (if counts then all_routes enforced ps from None clean all others.ways else []) → bars ≡ []
      → AreEdges counts enforced ps skipped limit from routes bars apart
  NoEdges : (why : Why) → IsWhyFor true ps limit from why → routes ≡ [] → apart ≡ []
      → bars ≡ record { at = name_of ps from; why = why } ∷ [] → AreEdges counts enforced ps skipped limit from routes bars apart
