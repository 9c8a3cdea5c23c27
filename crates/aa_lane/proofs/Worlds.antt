-- Why the worlds of an engine don't touch one another.
use Rattle.std.proofs.Common.{◌≡◌, ◌≢◌, ℕ, zero, suc, ◌==◌, true, false, List, [], ◌∷◌, length, refl, sym, ap, ◌∙◌, subst, Option, Some, None, option_map, slice_get, slice_set, eqb-true, false-eqb}
use Rattle.std.proofs.lemmas.List.{length-set}
use Rattle.aa_lane.specs.WorldState.{WorldState, IsLawful, after, answer_to, after_all, answers_to}
use Rattle.aa_lane.specs.Worlds.{of_tag, changed, all_changed, all_said, WorldsApart}
use Rattle.aa_lane.specs.declared.event.Event.{Event}
use Rattle.aa_lane.proofs.Lawful.{after_all_lawful}

module _ {X : Type 0} where
  get_set : (xs : List X) (i : ℕ) (x y : X) → slice_get xs i ≡ Some x → slice_get (slice_set xs i y) i ≡ Some y
  get_set [] i x y e = cc
  get_set (z ∷ xs) zero x y e = refl
  get_set (z ∷ xs) (suc i) x y e = get_set xs i x y e

  get_set_other : (xs : List X) (i j : ℕ) (y : X) → j ≢ i → slice_get (slice_set xs i y) j ≡ slice_get xs j
  get_set_other [] i j y ne = refl
  get_set_other (z ∷ xs) zero zero y ne = absurd (ne refl)
  get_set_other (z ∷ xs) zero (suc j) y ne = refl
  get_set_other (z ∷ xs) (suc i) zero y ne = refl
  get_set_other (z ∷ xs) (suc i) (suc j) y ne = get_set_other xs i j y (λ e. ne (ap suc e))

module _ {W E : Type 0} (step : W → E → W) where
  pub changed_own : (ws : List W) (t : ℕ × E) → slice_get (changed step ws t) t.0 ≡ option_map (λ (w : W). step w t.1) (slice_get ws t.0)
  changed_own ws t = elim (slice_get ws t.0) as (λ o. slice_get ws t.0 ≡ o → slice_get (changed step ws t) t.0 ≡ option_map (λ (w : W). step w t.1) (slice_get ws t.0)) [
    | Some w ↦ λ e. rw e (get_set ws t.0 w (step w t.1) e)
    | None ↦ λ e. rw e e
  ] refl

  pub changed_other : (ws : List W) (t : ℕ × E) (j : ℕ) → j ≢ t.0 → slice_get (changed step ws t) j ≡ slice_get ws j
  changed_other ws t j ne = elim (slice_get ws t.0) as (λ o. slice_get ws t.0 ≡ o → slice_get (changed step ws t) j ≡ slice_get ws j) [
    | Some w ↦ λ e. rw e (get_set_other ws t.0 j (step w t.1) ne)
    | None ↦ λ e. rw e refl
  ] refl

  pub changed_length : (ws : List W) (t : ℕ × E) → length (changed step ws t) ≡ length ws
  changed_length ws t = elim (slice_get ws t.0) as (λ o. slice_get ws t.0 ≡ o → length (changed step ws t) ≡ length ws) [
    | Some w ↦ λ e. rw e (length-set ws t.0 (step w t.1))
    | None ↦ λ e. rw e refl
  ] refl

  pub all_changed_length : (ws : List W) (ts : List (ℕ × E)) → length (all_changed step ws ts) ≡ length ws
  all_changed_length ws [] = refl
  all_changed_length ws (t ∷ ts) = all_changed_length (changed step ws t) ts ∙ changed_length ws t

module _ {W E R : Type 0} (step : W → E → W) (says : W → E → R) where
  said_none : (ws : List W) (t : ℕ × E) (ts : List (ℕ × E)) → slice_get ws t.0 ≡ None → all_said step says ws (t ∷ ts) ≡ all_said step says (changed step ws t) ts
  said_none ws t ts e = rw e refl

  said_some : (ws : List W) (t : ℕ × E) (ts : List (ℕ × E)) (w : W) → slice_get ws t.0 ≡ Some w → all_said step says ws (t ∷ ts) ≡ (t.0, says w t.1) ∷ all_said step says (changed step ws t) ts
  said_some ws t ts w e = rw e refl

module _ {M S Q A : Type 0} (next : M → S → Q → S) (reply : M → S → Q → A) where
  abbrev World : Type 0
  World = WorldState M S Q A

  abbrev Tagged : Type 0
  Tagged = ℕ × Event M S Q A

  option_same : (o : Option World) → option_map (λ (w : World). w) o ≡ o
  option_same None = refl
  option_same (Some w) = refl

  option_twice : (o : Option World) (e : Event M S Q A) (es : List (Event M S Q A))
      → option_map (λ (w : World). after_all next reply w es) (option_map (λ (w : World). after next reply w e) o) ≡ option_map
      (λ (w : World). after_all next reply w (e ∷ es)) o
  option_twice None e es = refl
  option_twice (Some w) e es = refl

  each_one : (ws : List World) (ts : List Tagged) (i : ℕ) → slice_get (all_changed (after next reply) ws ts) i ≡ option_map (λ (w : World). after_all next reply w (of_tag i ts)) (slice_get ws i)
  each_one ws [] i = sym (option_same (slice_get ws i))
  each_one ws (t ∷ ts) i =
      let more = each_one (changed (after next reply) ws t) ts i in
      elim (t.0 == i) as (λ b. (t.0 == i) ≡ b → slice_get (all_changed (after next reply) ws (t ∷ ts)) i ≡ option_map (λ (w : World). after_all next reply w (of_tag i (t ∷ ts))) (slice_get ws i)) [
        | true ↦ λ e.
            let is : t.0 ≡ i = eqb-true _ _ e in
            let own = subst (λ j. slice_get (changed (after next reply) ws t) j ≡ option_map (λ (w : World). after next reply w t.1) (slice_get ws j)) is (changed_own (after next reply) ws t) in
            rw e (more ∙ ap (option_map (λ (w : World). after_all next reply w (of_tag i ts))) own ∙ option_twice (slice_get ws i) t.1 (of_tag i ts))
        | false ↦ λ e.
            let ne : i ≢ t.0 = λ f. false-eqb _ _ (sym e) (sym f) in
            rw e (more ∙ ap (option_map (λ (w : World). after_all next reply w (of_tag i ts))) (changed_other (after next reply) ws t i ne))
      ] refl

  each_says : (ws : List World) (ts : List Tagged) (i : ℕ) (w : World) → slice_get ws i ≡ Some w → of_tag i (all_said (after next reply) (answer_to next reply) ws ts) ≡ answers_to next reply w (of_tag i ts)
  each_says ws [] i w there = refl
  each_says ws (t ∷ ts) i w there =
      let ws' : List World = changed (after next reply) ws t in
      elim (t.0 == i) as (λ b. (t.0 == i) ≡ b → of_tag i (all_said (after next reply) (answer_to next reply) ws (t ∷ ts)) ≡ answers_to next reply w (of_tag i (t ∷ ts))) [
        | true ↦ λ e.
            let is : t.0 ≡ i = eqb-true _ _ e in
            let at : slice_get ws t.0 ≡ Some w = ap (slice_get ws) is ∙ there in
            let own : slice_get ws' i ≡ Some (after next reply w t.1) = ap (slice_get ws') (sym is) ∙ changed_own (after next reply) ws t ∙ ap (option_map (λ (w : World). after next reply w t.1)) at in
            let more = each_says ws' ts i (after next reply w t.1) own in
            ap (of_tag i) (said_some (after next reply) (answer_to next reply) ws t ts w at) ∙ rw e (ap (λ rs. answer_to next reply w t.1 ∷ rs) more)
        | false ↦ λ e.
            let ne : i ≢ t.0 = λ f. false-eqb _ _ (sym e) (sym f) in
            let more = each_says ws' ts i w (changed_other (after next reply) ws t i ne ∙ there) in
            elim (slice_get ws t.0) as (λ o. slice_get ws t.0 ≡ o → of_tag i (all_said (after next reply) (answer_to next reply) ws (t ∷ ts)) ≡ answers_to next reply w (of_tag i (t ∷ ts))) [
              | Some u ↦ λ at. ap (of_tag i) (said_some (after next reply) (answer_to next reply) ws t ts u at) ∙ rw e more
              | None ↦ λ at. ap (of_tag i) (said_none (after next reply) (answer_to next reply) ws t ts at) ∙ rw e more
            ] refl
      ] refl

  mapped_from : (o : Option World) (es : List (Event M S Q A)) (w : World) → option_map (λ (w : World). after_all next reply w es) o ≡ Some w → (u : World) × (o ≡ Some u) × (after_all next reply u es ≡ w)
  mapped_from None es w e = cc
  mapped_from (Some u) es w e = (u, refl, cc)

  pub worlds_apart : WorldsApart next reply
  worlds_apart = record {
    own = λ ws i e. changed_own (after next reply) ws (i, e);
    others = λ ws i j e ne. changed_other (after next reply) ws (i, e) j ne;
    as_many = all_changed_length (after next reply);
    each = each_one;
    says = each_says;
    lawful = λ ws ts all i w at.
        let from = mapped_from (slice_get ws i) (of_tag i ts) w (sym (each_one ws ts i) ∙ at) in
        subst (IsLawful next reply) from.2 (after_all_lawful next reply from.0 (of_tag i ts) (all i from.0 from.1));
  }
