-- Each event keeps a world lawful.
use Rattle.std.proofs.Common.{◌≡◌, ◌≢◌, ℕ, ◌+◌, ◌-◌, ◌<◌, ◌≤◌, ◌==◌, nat_lt, true, List, [], ◌∷◌, ◌++◌, length}
use Rattle.std.proofs.Common.{take, refl, sym, arith, length-append, slice_get, Option, Some, None, false-eqb, ltb-true, ltb-false}
use Rattle.std.proofs.lemmas.List.{take-append-le}
use Rattle.aa_lane.specs.WorldState.{WorldState, IsLawful, opening, after, after_all, is_spent, is_full, decided}
use Rattle.aa_lane.specs.declared.event.Event.{Event}
use Rattle.aa_lane.specs.declared.event.Event.TheVariants.{Send, Take, Finish, Collect, Shut}
use Rattle.aa_lane.proofs.WorldStates.{answering_lawful}
use Rattle.aa_lane.proofs.Rows.{cond_case}

module _ {M S Q A : Type 0} (next : M → S → Q → S) (reply : M → S → Q → A) where
  pub opening_lawful : (m : M) (s : S) (c : ℕ) → IsLawful next reply (opening m s c)
  opening_lawful m s c = record { gotten = omega arith; begun = omega arith; one = omega arith; sent = omega arith; spent = omega arith; room = omega arith; answered = refl; reached = refl }

  pub sending_lawful : (w : WorldState M S Q A) (q : Q) → IsLawful next reply w → length w.accepted ≢ 4611686018427387903
      → (length w.accepted - w.collected) ≢ w.capacity → IsLawful next reply (record w { accepted = w.accepted ++ q ∷ [] })
  sending_lawful w q h spent full =
      let n : length (w.accepted ++ q ∷ []) ≡ length w.accepted + 1 = length-append w.accepted (q ∷ []) in
      let b = h.begun in let s = h.sent in let r = h.room in let p = h.spent in
      let le : length w.answers ≤ length w.accepted = omega arith in
      let same : take (length w.answers) (w.accepted ++ q ∷ []) ≡ take (length w.answers) w.accepted = take-append-le (length w.answers) w.accepted (q ∷ []) le in
      record {
        gotten = h.gotten;
        begun = h.begun;
        one = h.one;
        sent = omega arith;
        spent = omega arith;
        room = omega arith;
        answered = rw same h.answered;
        reached = rw same h.reached;
      }

  pub taking_lawful : (w : WorldState M S Q A) → IsLawful next reply w → w.taken ≤ length w.answers → w.taken < length w.accepted → IsLawful next reply (record w { taken = w.taken + 1 })
  taking_lawful w h free more =
      let b = h.begun in
      record { gotten = h.gotten; begun = omega arith; one = omega arith; sent = omega arith; spent = h.spent; room = h.room; answered = h.answered; reached = h.reached }

  pub collecting_lawful : (w : WorldState M S Q A) → IsLawful next reply w → w.collected < length w.answers → IsLawful next reply (record w { collected = w.collected + 1 })
  collecting_lawful w h more =
      let r = h.room in
      record { gotten = omega arith; begun = h.begun; one = h.one; sent = h.sent; spent = h.spent; room = omega arith; answered = h.answered; reached = h.reached }

  pub shutting_lawful : (w : WorldState M S Q A) → IsLawful next reply w → IsLawful next reply (record w { shut = true })
  shutting_lawful w h = record { gotten = h.gotten; begun = h.begun; one = h.one; sent = h.sent; spent = h.spent; room = h.room; answered = h.answered; reached = h.reached }

  finish_lawful : (w : WorldState M S Q A) (o : Option Q) → slice_get w.accepted (length w.answers) ≡ o → IsLawful next reply w → w.taken ≢ length w.answers → IsLawful next reply (decided next reply w o)
  finish_lawful w None e h ne = h
  finish_lawful w (Some q) e h ne = answering_lawful next reply w q h ne e

  pub after_lawful : (w : WorldState M S Q A) (e : Event M S Q A) → IsLawful next reply w → IsLawful next reply (after next reply w e)
  after_lawful w (Send q) h =
      let P : WorldState M S Q A → Type 0 = IsLawful next reply in
      cond_case P (is_spent w) _ _ (λ _. h) (λ s. cond_case P (is_full w) _ _ (λ _. h) (λ f. cond_case P w.shut _ _ (λ _. h) (λ _. sending_lawful w q h (false-eqb _ _ (sym s)) (false-eqb _ _ (sym f)))))
  after_lawful w Take h =
      let P : WorldState M S Q A → Type 0 = IsLawful next reply in
      cond_case P (nat_lt (length w.answers) w.taken) _ _ (λ _. h) (λ f. cond_case P (nat_lt w.taken (length w.accepted)) _ _ (λ t. taking_lawful w h (ltb-false _ _ f) (ltb-true _ _ t)) (λ _. h))
  after_lawful w Finish h =
      let P : WorldState M S Q A → Type 0 = IsLawful next reply in
      cond_case P (w.taken == length w.answers) _ _ (λ _. h) (λ f. finish_lawful w _ refl h (false-eqb _ _ (sym f)))
  after_lawful w Collect h =
      let P : WorldState M S Q A → Type 0 = IsLawful next reply in
      cond_case P (nat_lt w.collected (length w.answers)) _ _ (λ t. collecting_lawful w h (ltb-true _ _ t)) (λ _. h)
  after_lawful w Shut h = shutting_lawful w h

  pub after_all_lawful : (w : WorldState M S Q A) (es : List (Event M S Q A)) → IsLawful next reply w → IsLawful next reply (after_all next reply w es)
  after_all_lawful w [] h = h
  after_all_lawful w (e ∷ es) h = after_all_lawful (after next reply w e) es (after_lawful w e h)
