-- What the steps of a seat ask of the table.
use Rattle.std.proofs.Common.{◌≡◌, ℕ, ◌+◌, ◌%◌, Bool, true, false, List, [], ◌∷◌, length, take, sym, ap, ◌∙◌, subst, slice_get, Some}
use mathlib.Core.Option.{none}
use Rattle.atomic_table.specs.Table.{Me, step, Allows, rest}
use Rattle.atomic_table.specs.Seated.{TableId}
use Rattle.aa_lane.specs.Log.{same}
use Rattle.aa_lane.specs.Shows.{HasLog}
use Rattle.aa_lane.specs.declared.cells.Cell.{Cell}
use Rattle.aa_lane.specs.declared.cells.Cell.TheVariants.{Asked, Answered}
use Rattle.aa_lane.specs.declared.cells.View.{View}
use Rattle.aa_lane.specs.declared.cells.Key.{Key}
use Rattle.aa_lane.specs.Plays.{readied, took, is_taken, finished, collected, is_collected}
use Rattle.aa_machine.specs.Run.{state_after}
use Rattle.aa_lane.specs.Steps.{CanReady, CanTake, CanFinish, CanCollect}
use Rattle.aa_lane.proofs.Opens.{readies_step}
use Rattle.aa_lane.proofs.Takes.{takes_step}
use Rattle.aa_lane.proofs.Finishes.{finishes_step}
use Rattle.aa_lane.proofs.Collects.{collects_step}

module _ {M S Q A : Type 0} (next : M → S → Q → S) (reply : M → S → Q → A) (k : Key M S Q A) where
  pub can_ready : (z z' : TableId) (id : ℕ) (m : Me (Cell M S Q A) (View M S Q A)) → CanReady z m → z ≡ z'
      → Allows (HasLog next reply k) z'.slots id m 0 (λ n. n) (readied (step z'.slots 0 0 0 none) m)
  can_ready z z' id m can same =
      let P : List (ℕ × Cell M S Q A) → Type 0 = λ l. Allows (HasLog next reply k) z'.slots id (m.0, l) 0 (λ n. n) (readied (step z'.slots 0 0 0 none) (m.0, l)) in
      subst P (sym can.held) (readies_step next reply k z'.slots id m.0 can.owns can.before)

  pub can_take : (z z' : TableId) (id n slot : ℕ) (m : Me (Cell M S Q A) (View M S Q A)) → CanTake z m n slot → z ≡ z'
      → Allows (HasLog next reply k) z'.slots id m 0 (λ n. n) (took next reply (step z'.slots 0 0 0 none) m)
  can_take z z' id n slot m can same =
      let P : List (ℕ × Cell M S Q A) → Type 0 = λ l. Allows (HasLog next reply k) z'.slots id (m.0, l) 0 (λ n. n) (took next reply (step z'.slots 0 0 0 none) (m.0, l)) in
      subst P (sym can.held) (takes_step next reply k z'.slots id m.0 can.serves (can.idle ∙ sym can.done))

  pub can_collect : (z z' : TableId) (id n slot : ℕ) (m : Me (Cell M S Q A) (View M S Q A)) → CanCollect z m n slot → z ≡ z'
      → Allows (HasLog next reply k) z'.slots id m 16 (λ n. n) (collected next reply (step z'.slots 16 0 0 none) m)
  can_collect z z' id n slot m can same = collects_step next reply k z'.slots id m.0 m.1 can.owns can.ready

  pub can_finish : (z z' : TableId) (id n slot : ℕ) (m : Me (Cell M S Q A) (View M S Q A)) (q : Q) (a : A) → CanFinish next reply z m n slot q a → z ≡ z'
      → Allows (HasLog next reply k) z'.slots id (m.0, (slot, Answered q a) ∷ rest m.1) 16 (λ _. n + 1) (λ _. finished next reply (step z'.slots 16 (n + 1) 0 none) (m.0, (slot, Answered q a) ∷ rest m.1) (n + 1))
  can_finish z z' id n slot m q a can same =
      let at_slot : slot ≡ m.0.server.done % z'.slots = can.slot_is ∙ ap (λ (y : TableId). n % y.slots) same ∙ ap (λ i. i % z'.slots) (sym can.done) in
      let P : ℕ → List (ℕ × Cell M S Q A) → Type 0 = λ i l. Allows (HasLog next reply k) z'.slots id (m.0, l) 16 (λ _. i + 1) (λ _. finished next reply (step z'.slots 16 (i + 1) 0 none) (m.0, l) (i + 1)) in
      let held : (slot, Answered q a) ∷ rest m.1 ≡ (m.0.server.done % z'.slots, Answered q a) ∷ [] = ap (λ l. (slot, Answered q a) ∷ rest l) can.held ∙ ap (λ i. (i, Answered q a) ∷ []) at_slot in
      let busy : length m.0.server.taken ≡ m.0.server.done + 1 = can.busy ∙ ap (λ i. i + 1) (sym can.done) in
      let job : slice_get m.0.server.taken m.0.server.done ≡ Some q = subst (λ i. slice_get m.0.server.taken i ≡ Some q) (sym can.done) can.job in
      let decided : (w : M) (t : S) → m.0.terms ≡ Some (w, t) → a ≡ reply w (state_after (next w) (reply w) t (take m.0.server.done m.0.server.taken)) q =
      subst (λ i. (w : M) (t : S) → m.0.terms ≡ Some (w, t) → a ≡ reply w (state_after (next w) (reply w) t (take i m.0.server.taken)) q) (sym can.done) can.decided in
      subst (λ i. P i ((slot, Answered q a) ∷ rest m.1)) can.done (subst (P m.0.server.done) (sym held) (finishes_step next reply k z'.slots id m.0 q a can.serves busy job decided))

  pub collected_one : (b : Bool) (slots r slot : ℕ) (m m' : Me (Cell M S Q A) (View M S Q A)) → b ≡ true → slot ≡ m.0.owner.got % slots → is_collected next reply b slots r m m'
      → (x : Cell M S Q A) × (m'.1 ≡ (slot, x) ∷ rest m'.1)
  collected_one true slots r slot m m' e is h =
      let P : List (ℕ × Cell M S Q A) → Type 0 = λ l. l ≡ (slot, Answered h.0 h.1) ∷ rest l in
      (Answered h.0 h.1, subst P (ap (λ (n : Me (Cell M S Q A) (View M S Q A)). n.1) (sym h.3)) (ap (λ i. (i, Answered h.0 h.1) ∷ m.1) (sym is)))
  collected_one false slots r slot m m' e is h = let z : false ≡ true = e in cc

  pub took_one : (b : Bool) (slots n slot : ℕ) (odd : Bool) (m m' : Me (Cell M S Q A) (View M S Q A)) → b ≡ true → slot ≡ m.0.server.done % slots → is_taken next reply b slots n odd m m'
      → (x : Cell M S Q A) × (m'.1 ≡ (slot, x) ∷ rest m'.1)
  took_one true slots n slot odd m m' e is h =
      let P : List (ℕ × Cell M S Q A) → Type 0 = λ l. l ≡ (slot, Asked h.0) ∷ rest l in
      (Asked h.0, subst P (ap (λ (n : Me (Cell M S Q A) (View M S Q A)). n.1) (sym h.1)) (ap (λ i. (i, Asked h.0) ∷ m.1) (sym is)))
  took_one false slots n slot odd m m' e is h = let z : false ≡ true = e in cc
