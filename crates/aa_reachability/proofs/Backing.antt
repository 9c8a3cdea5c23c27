-- From an arrival back to where the task begins.
use Rattle.std.proofs.Common.{◌≡◌, ℕ, ◌<◌, List, [], ◌∷◌, ◌++◌, Option, Some, None, reverse, refl, sym, ap, ◌∙◌}
use Rattle.std.proofs.Common.{subst, append_assoc}
use Rattle.std.specs.List.{slice_get}
use Rattle.std.proofs.lemmas.List.{reverse-append}
use Rattle.aa_model.specs.declared.request.Request.{Request}
use Rattle.aa_reachability.specs.declared.trail.Step.{Step}
use Rattle.aa_reachability.specs.declared.trail.Arrival.{Arrival}
use Rattle.aa_reachability.specs.Reach.{IsWay, AreWays, way_at}

no_step : (o : Option Step) → ((s : Step) → o ≡ Some s → ⊥) → o ≡ None
no_step None none = refl
no_step (Some s) none = absurd (none s refl)

module _ (arrivals : List Arrival) (ways : List (List Request)) (are : AreWays arrivals ways) (i : ℕ) (a : Arrival)
    (here : slice_get arrivals i ≡ Some a) where
  pub way_before : (s : Step) → a.step ≡ Some s → (s.from < i) × (way_at ways i ≡ way_at ways s.from ++ s.request ∷ [])
  way_before s e = subst (λ (o : Option Step). IsWay i o ways (way_at ways i)) e (are.each i a here)

  pub way_first : ((s : Step) → a.step ≡ Some s → ⊥) → way_at ways i ≡ []
  way_first none = subst (λ (o : Option Step). IsWay i o ways (way_at ways i)) (no_step a.step none) (are.each i a here)

  -- a request is put behind the later ones, which stand last first
  pub way_back : (s : Step) → a.step ≡ Some s → (whole : List Request) (later now : List Request) (r : Request) → r ≡ s.request
      → now ≡ later ++ r ∷ []
      → whole ≡ way_at ways i ++ reverse later → whole ≡ way_at ways s.from ++ reverse now
  way_back s e whole later now r same is rest =
      let turned : reverse now ≡ s.request ∷ reverse later = ap reverse is ∙ reverse-append later (r ∷ []) ∙ ap (λ x. x ∷ reverse later) same in
      rest ∙ ap (λ w. w ++ reverse later) (way_before s e).1 ∙ append_assoc (way_at ways s.from) (s.request ∷ []) (reverse later)
      ∙ ap (λ w. way_at ways s.from ++ w) (sym turned)

  pub way_whole : ((s : Step) → a.step ≡ Some s → ⊥) → (whole later : List Request) → whole ≡ way_at ways i ++ reverse later
      → reverse later ≡ whole
  way_whole none whole later rest = sym (rest ∙ ap (λ w. w ++ reverse later) (way_first none))
