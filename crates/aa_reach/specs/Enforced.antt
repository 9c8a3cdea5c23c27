-- What is found where complain mode moves no task is found by the policies whose complain flags are cleared.
-- Source: apparmor.d(5), "Profile flags"; own.
use Rattle.std.specs.Prelude.{◌≡◌, ℕ, List, [], Bool, true, false}
use Rattle.aa_model.specs.declared.policy.Policy.{Policy}
use Rattle.aa_model.specs.declared.label.Label.{Label}
use Rattle.aa_model.specs.declared.request.Request.{Request}
use Rattle.aa_reachability.specs.declared.trail.Arrival.{Arrival}
use Rattle.aa_reachability.specs.Moves.{label_next, label_going}
use Rattle.aa_who.specs.Enforced.{AreEnforcing}
use Rattle.aa_reach.specs.Routes.{IsSearched, AreFoundNear}

-- a request leads so where the mediator's answer by such policies leads; these lead there whether complain mode counts or doesn't
abbrev pub StepsEnforced : Type 0
StepsEnforced = (ps qs : List Policy) → AreEnforcing ps qs → (enforced : Bool) (l : Label) (r : Request)
    → (label_going true ps l r ≡ label_next qs l r) × (label_going enforced qs l r ≡ label_next qs l r)

-- by such policies, as they are, a search finds the same: the same labels by the same requests, and that the same isn't told
pub record FindsThere (clean : Bool) (ps qs : List Policy) (limit : ℕ) (from : Label) (s : IsSearched clean true ps [] limit from) : Type 0 where
  pub search : IsSearched clean false qs [] limit from
  pub arrivals : search.arrivals ≡ s.arrivals
  pub ways : search.are.ways ≡ s.are.ways
  pub untold : search.untold ≡ s.untold

-- so of each search
abbrev pub SearchesEnforced : Type 0
SearchesEnforced = (clean : Bool) (ps qs : List Policy) → AreEnforcing ps qs → (limit : ℕ) (from : Label) (s : IsSearched clean true ps [] limit from)
    → FindsThere clean ps qs limit from s

-- and of what one request leads to
abbrev pub EdgesEnforced : Type 0
EdgesEnforced = (clean : Bool) (ps qs : List Policy) → AreEnforcing ps qs → (from : Label) (arrivals : List Arrival)
    → AreFoundNear clean true ps [] from arrivals → AreFoundNear clean false qs [] from arrivals
