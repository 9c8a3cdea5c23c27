-- Arrivals by the first requests that lead to their labels.
use Rattle.std.proofs.Common.{◌≡◌, ◌⊎◌, ℕ, ◌+◌, ◌<◌, ◌≤◌, List, [], ◌∷◌, ◌++◌, Option, Some, None, length, get_or, Contains}
use Rattle.std.proofs.Common.{refl, sym, ap, ◌∙◌, subst, arith, ⊎_elim}
use Rattle.std.specs.Prelude.{slice_index_or}
use Rattle.std.specs.List.{slice_get}
use Rattle.std.proofs.lemmas.Bool.{cases_lt}
use Rattle.std.proofs.lemmas.List.{length_push, get_or_push}
use Rattle.aa_model.specs.declared.label.Label.{Label}
use Rattle.aa_model.specs.declared.request.Request.{Request}
use Rattle.aa_representatives.specs.Askable.{IsAskable}
use Rattle.aa_reachability.specs.declared.trail.Step.{Step}
use Rattle.aa_reachability.specs.declared.trail.Arrival.{Arrival}
use Rattle.aa_reachability.specs.Order.{IsNoLater, IsInOrder}
use Rattle.aa_reachability.specs.Beside.{LeadAllOn}
use Rattle.aa_reachability.specs.Reach.{IsWay, way_at}
use Rattle.aa_reachability.specs.Trail.{no_arrival, arrival_at, IsTrail, IsWithin, Extends, IsStepBy, AreAddedBy, IsFirstTo, IsFirstStep, AreFirst}
use Rattle.aa_reachability.proofs.Ordering.{no_later_on, at_places}
use Rattle.aa_reachability.proofs.Reaching.{extends_at, extends_length, same, here}

-- none is added
pub added_none : (r : Request) (arrivals : List Arrival) → AreAddedBy r (length arrivals) arrivals
added_none r arrivals i late lt = absurd (omega (arith, late, lt))

-- one is added
pub added_more : (r : Request) (arrivals now : List Arrival) (new : Arrival) → now ≡ arrivals ++ new ∷ [] → IsStepBy r new.step
    → AreAddedBy r (length arrivals) now
added_more r arrivals now new more is =
    subst (AreAddedBy r (length arrivals)) (sym more)
    (λ i late lt.
    let e : length arrivals ≡ i = omega (arith, late, lt, length_push arrivals new) in
    subst (λ n. IsStepBy r (arrival_at (arrivals ++ new ∷ []) n).step) e
    (subst (λ (x : Arrival). IsStepBy r x.step) (sym (get_or_push arrivals new no_arrival (length arrivals) refl)) is))

-- where no request is tried yet
pub first_none : (go : Label → Request → Label) (l : Label) (rs : List Request) (arrivals : List Arrival) → AreFirst go l rs (length arrivals) arrivals
first_none go l rs arrivals i late lt = absurd (omega (arith, late, lt))

-- one request more is tried: what is added is at a label to which none before it leads
module _ (go : Label → Request → Label) (l : Label) (rs : List Request) (n m many : ℕ) (was now : List Arrival) (from : Label) (known : List ℕ)
    (trail : IsTrail go from known now) (ext : Extends m was now) (k : ℕ) (r : Request) (lt : k < length rs) (item : r ≡ get_or rs k r)
    (behind : (j : ℕ) (q : Request) → j < k → get_or rs j q ≡ q → IsWithin was (go l q) many) where
  step_first : (i : ℕ) → length was ≤ i → i < length now → (o : Option Step) → IsStepBy r o → IsFirstStep go l rs (arrival_at now i).label o
  step_first i late li None is = absurd is
  step_first i late li (Some step) is = record {
    place = k;
    within = lt;
    is = subst (λ (x : Request). slice_index_or rs k x ≡ x) (sym is) (sym item);
    before = λ j q below e leads.
        let w = behind j q below e in
        let there : (arrival_at now w.0).label ≡ (arrival_at now i).label = ap (λ (x : Arrival). x.label) (extends_at was now ext w.0 w.1) ∙ w.2 ∙ leads in
        let one : w.0 ≡ i = same go from known now trail w.0 i (omega (arith, w.1, extends_length was now ext)) li there in
        omega (arith, one, w.1, late);
  }

  pub first_more : AreFirst go l rs n was → AreAddedBy r (length was) now → AreFirst go l rs n now
  first_more first added i late li =
      ⊎_elim
      (λ (old : i < length was).
      subst (λ (x : Arrival). IsFirstStep go l rs x.label x.step) (sym (extends_at was now ext i old)) (first i late old))
      (λ (new : length was ≤ i). step_first i new li (arrival_at now i).step (added i new li))
      (cases_lt i (length was))

-- each arrival near the first is by a request before which none comes that leads there
module _ (go : Label → Request → Label) (from : Label) (known : List ℕ) (arrivals : List Arrival) (trail : IsTrail go from known arrivals)
    (rs : List Request) (order : IsInOrder rs) (first : AreFirst go from rs 1 arrivals) (lead : LeadAllOn go from rs) where
  no_first_step : (o : Option Step) (step : Step) (ways : List (List Request)) (way : List Request) → o ≡ Some step → IsWay 0 o ways way → ⊥
  no_first_step None step ways way e is = absurd (cc e)
  no_first_step (Some s) step ways way e is = omega (arith, is.0)

  behind_first : (i : ℕ) (step : Step) → (arrival_at arrivals i).step ≡ Some step → 1 ≤ i
  behind_first i step e =
      ⊎_elim
      (λ (lt : i < 1).
      let z : i ≡ 0 = omega (arith, lt) in
      absurd
      (no_first_step (arrival_at arrivals 0).step step trail.ways (way_at trail.ways 0)
      (subst (λ (k : ℕ). (arrival_at arrivals k).step ≡ Some step) z e) (trail.each 0 trail.some).is_way))
      (λ (le : 1 ≤ i). le)
      (cases_lt i 1)

  none_before : (i : ℕ) → i < length arrivals → (step : Step) → (arrival_at arrivals i).step ≡ Some step → (r : Request) → IsAskable r
      → go from r ≡ (arrival_at arrivals i).label → IsNoLater step.request r
  none_before i li step e r asked leads =
      let late = behind_first i step e in
      let at : IsFirstTo go from (arrival_at arrivals i).label rs step.request =
      subst (IsFirstStep go from rs (arrival_at arrivals i).label) e (first i late li) in
      ⊎_elim
      (λ (stays : go from r ≡ from).
      let z : 0 ≡ i = same go from known arrivals trail 0 i trail.some li (trail.start ∙ sym stays ∙ leads) in
      absurd (omega (arith, z, late)))
      (λ (found : (q : Request) × Contains rs q × (go from r ≡ go from q) × IsNoLater q r).
      ⊎_elim
      (λ (below : found.1.0 < at.place). absurd (at.before found.1.0 found.0 below found.1.2 (sym found.2 ∙ leads)))
      (λ (le : at.place ≤ found.1.0).
      no_later_on step.request found.0 r (at_places rs order at.place found.1.0 step.request found.0 le found.1.1 at.is found.1.2) found.3)
      (cases_lt found.1.0 at.place))
      (lead.all r asked)

  pub near_shortest : (i : ℕ) (a : Arrival) (step : Step) → slice_get arrivals i ≡ Some a → a.step ≡ Some step → (r : Request) → IsAskable r
      → go from r ≡ a.label → IsNoLater step.request r
  near_shortest i a step there e r asked leads =
      let h = here go from known arrivals trail i a there in
      none_before i h.0 step (ap (λ (x : Arrival). x.step) h.1 ∙ e) r asked (leads ∙ ap (λ (x : Arrival). x.label) (sym h.1))
