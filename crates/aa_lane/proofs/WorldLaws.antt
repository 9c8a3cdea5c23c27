-- Why a world stays shut and settled, and its lists only grow.
use Rattle.std.proofs.Common.{◌≡◌, ◌≢◌, ◌≤◌, ◌==◌, nat_lt, true, false, List, [], ◌∷◌, ◌++◌, length, refl, sym, ap, ◌∙◌, arith, Option, Some, None, slice_get, append_assoc, false-eqb, ltb-false, le-ltb}
use Rattle.std.proofs.lemmas.List.{append-nil}
use Rattle.aa_lane.specs.WorldState.{WorldState, IsLawful, IsSettled, after, after_all, answer_to, is_spent, is_full, decided}
use Rattle.aa_lane.specs.WorldLaws.{WorldLaws}
use Rattle.aa_lane.specs.declared.event.SendFault.TheVariants.{Spent, Full, Closed}
use Rattle.aa_lane.specs.declared.event.Event.{Event}
use Rattle.aa_lane.specs.declared.event.Event.TheVariants.{Send, Take, Finish, Collect, Shut}
use Rattle.aa_lane.specs.declared.event.Reply.{Reply}
use Rattle.aa_lane.specs.declared.event.Reply.TheVariants.{Accepted, Unsent, Taken, Idle, Settled, Held, Given, Nothing}
use Rattle.aa_lane.proofs.Lawful.{after_lawful, after_all_lawful}
use Rattle.aa_lane.proofs.Rows.{cond_case}

module _ {M S Q A : Type 0} (next : M → S → Q → S) (reply : M → S → Q → A) where
  closed_shut : (w : WorldState M S Q A) (q : Q) → answer_to next reply w (Send q) ≡ Unsent Closed q → w.shut ≡ true
  closed_shut w q =
      let P : Reply M S Q A → Type 0 = λ r. r ≡ Unsent Closed q → w.shut ≡ true in
      cond_case P (is_spent w) _ _ (λ _ e. let z : Unsent Spent q ≡ Unsent Closed q = e in cc)
      (λ _. cond_case P (is_full w) _ _ (λ _ e. let z : Unsent Full q ≡ Unsent Closed q = e in cc) (λ _. cond_case P w.shut _ _ (λ s _. s) (λ _ e. let z : Accepted (length w.accepted) ≡ Unsent Closed q = e in cc)))

  -- a shut world after one event
  abbrev Shutly : WorldState M S Q A → WorldState M S Q A → Type 0
  Shutly w w' = (w'.shut ≡ true) × (w'.accepted ≡ w.accepted)

  decided_shut : (w : WorldState M S Q A) (o : Option Q) → w.shut ≡ true → Shutly w (decided next reply w o)
  decided_shut w None is = (is, refl)
  decided_shut w (Some q) is = (is, refl)

  after_shut : (w : WorldState M S Q A) (e : Event M S Q A) → w.shut ≡ true → Shutly w (after next reply w e)
  after_shut w (Send q) is =
      let P : WorldState M S Q A → Type 0 = Shutly w in
      cond_case P (is_spent w) _ _ (λ _. (is, refl)) (λ _. cond_case P (is_full w) _ _ (λ _. (is, refl)) (λ _. cond_case P w.shut _ _ (λ _. (is, refl)) (λ f. let z : true ≡ false = sym is ∙ f in cc)))
  after_shut w Take is =
      let P : WorldState M S Q A → Type 0 = Shutly w in
      cond_case P (nat_lt (length w.answers) w.taken) _ _ (λ _. (is, refl)) (λ _. cond_case P (nat_lt w.taken (length w.accepted)) _ _ (λ _. (is, refl)) (λ _. (is, refl)))
  after_shut w Finish is =
      let P : WorldState M S Q A → Type 0 = Shutly w in
      cond_case P (w.taken == length w.answers) _ _ (λ _. (is, refl)) (λ _. decided_shut w (slice_get w.accepted (length w.answers)) is)
  after_shut w Collect is =
      let P : WorldState M S Q A → Type 0 = Shutly w in
      cond_case P (nat_lt w.collected (length w.answers)) _ _ (λ _. (is, refl)) (λ _. (is, refl))
  after_shut w Shut is = (refl, refl)

  all_shut : (w : WorldState M S Q A) (es : List (Event M S Q A)) → w.shut ≡ true → Shutly w (after_all next reply w es)
  all_shut w [] is = (is, refl)
  all_shut w (e ∷ es) is =
      let one = after_shut w e is in
      let more = all_shut (after next reply w e) es one.0 in
      (more.0, more.1 ∙ one.1)

  take_settled : (w : WorldState M S Q A) → IsLawful next reply w → answer_to next reply w Take ≡ Settled → IsSettled w
  take_settled w h =
      let P : Reply M S Q A → Type 0 = λ r. r ≡ Settled → IsSettled w in
      let b = h.begun in let s = h.sent in
      cond_case P (nat_lt (length w.answers) w.taken) _ _ (λ _ e. let z : Held ≡ Settled = e in cc)
      (λ f. cond_case P (nat_lt w.taken (length w.accepted)) _ _ (λ _ e. let z : Taken w.taken ≡ Settled = e in cc)
      (λ g. cond_case P w.shut _ _ (λ is _. (is, let x = ltb-false _ _ f in let y = ltb-false _ _ g in omega arith)) (λ _ e. let z : Idle ≡ Settled = e in cc)))

  settled_take : (w : WorldState M S Q A) → IsLawful next reply w → IsSettled w → answer_to next reply w Take ≡ Settled
  settled_take w h is =
      let b = h.begun in let s = h.sent in let n = is.1 in
      let free : w.taken ≤ length w.answers = omega arith in
      let none_left : length w.accepted ≤ w.taken = omega arith in
      rw (le-ltb (length w.answers) w.taken free, le-ltb w.taken (length w.accepted) none_left, is.0) refl

  after_settled : (w : WorldState M S Q A) (e : Event M S Q A) → IsLawful next reply w → IsSettled w → IsSettled (after next reply w e)
  after_settled w (Send q) h is =
      let P : WorldState M S Q A → Type 0 = IsSettled in
      cond_case P (is_spent w) _ _ (λ _. is) (λ _. cond_case P (is_full w) _ _ (λ _. is) (λ _. cond_case P w.shut _ _ (λ _. is) (λ f. let z : true ≡ false = sym is.0 ∙ f in cc)))
  after_settled w Take h is =
      let P : WorldState M S Q A → Type 0 = IsSettled in
      cond_case P (nat_lt (length w.answers) w.taken) _ _ (λ _. is) (λ _. cond_case P (nat_lt w.taken (length w.accepted)) _ _ (λ _. is) (λ _. is))
  after_settled w Finish h is =
      let P : WorldState M S Q A → Type 0 = IsSettled in
      let b = h.begun in let s = h.sent in let n = is.1 in
      cond_case P (w.taken == length w.answers) _ _ (λ _. is) (λ f. let ne : w.taken ≢ length w.answers = false-eqb _ _ (sym f) in absurd (ne (omega arith)))
  after_settled w Collect h is =
      let P : WorldState M S Q A → Type 0 = IsSettled in
      cond_case P (nat_lt w.collected (length w.answers)) _ _ (λ _. is) (λ _. is)
  after_settled w Shut h is = (refl, is.1)

  all_settled : (w : WorldState M S Q A) (es : List (Event M S Q A)) → IsLawful next reply w → IsSettled w → IsSettled (after_all next reply w es)
  all_settled w [] h is = is
  all_settled w (e ∷ es) h is = all_settled (after next reply w e) es (after_lawful next reply w e h) (after_settled w e h is)

  none_left_to_collect : (w : WorldState M S Q A) → IsLawful next reply w → IsSettled w → answer_to next reply w Collect ≡ Nothing → w.collected ≡ length w.accepted
  none_left_to_collect w h is =
      let P : Reply M S Q A → Type 0 = λ r. r ≡ Nothing → w.collected ≡ length w.accepted in
      let c = h.gotten in let n = is.1 in
      cond_case P (nat_lt w.collected (length w.answers)) _ _ (λ _ e. let z : Given w.collected ≡ Nothing = e in cc) (λ f _. let x = ltb-false _ _ f in omega arith)

  -- both lists of a world begin with those of an earlier one
  abbrev Longer : WorldState M S Q A → WorldState M S Q A → Type 0
  Longer w w' = ((more : List Q) × (w'.accepted ≡ w.accepted ++ more)) × ((more : List A) × (w'.answers ≡ w.answers ++ more))

  same_long : (w : WorldState M S Q A) → Longer w w
  same_long w = (([], sym (append-nil _)), ([], sym (append-nil _)))

  decided_longer : (w : WorldState M S Q A) (o : Option Q) → Longer w (decided next reply w o)
  decided_longer w None = same_long w
  decided_longer w (Some q) = (([], sym (append-nil _)), (reply w.machine w.state q ∷ [], refl))

  after_longer : (w : WorldState M S Q A) (e : Event M S Q A) → Longer w (after next reply w e)
  after_longer w (Send q) =
      let P : WorldState M S Q A → Type 0 = Longer w in
      cond_case P (is_spent w) _ _ (λ _. same_long w) (λ _. cond_case P (is_full w) _ _ (λ _. same_long w) (λ _. cond_case P w.shut _ _ (λ _. same_long w) (λ _. ((q ∷ [], refl), ([], sym (append-nil _))))))
  after_longer w Take =
      let P : WorldState M S Q A → Type 0 = Longer w in
      cond_case P (nat_lt (length w.answers) w.taken) _ _ (λ _. same_long w) (λ _. cond_case P (nat_lt w.taken (length w.accepted)) _ _ (λ _. same_long w) (λ _. same_long w))
  after_longer w Finish =
      let P : WorldState M S Q A → Type 0 = Longer w in
      cond_case P (w.taken == length w.answers) _ _ (λ _. same_long w) (λ _. decided_longer w (slice_get w.accepted (length w.answers)))
  after_longer w Collect =
      let P : WorldState M S Q A → Type 0 = Longer w in
      cond_case P (nat_lt w.collected (length w.answers)) _ _ (λ _. same_long w) (λ _. same_long w)
  after_longer w Shut = same_long w

  all_longer : (w : WorldState M S Q A) (es : List (Event M S Q A)) → Longer w (after_all next reply w es)
  all_longer w [] = same_long w
  all_longer w (e ∷ es) =
      let one = after_longer w e in
      let more = all_longer (after next reply w e) es in
      ((one.0.0 ++ more.0.0, more.0.1 ∙ ap (λ l. l ++ more.0.0) one.0.1 ∙ append_assoc w.accepted one.0.0 more.0.0), (one.1.0 ++ more.1.0, more.1.1 ∙ ap (λ l. l ++ more.1.0) one.1.1 ∙ append_assoc w.answers one.1.0 more.1.0))

  pub world_laws : WorldLaws next reply
  world_laws = record {
    closed = closed_shut;
    stays_shut = λ w es is. (all_shut w es is).0;
    none_accepted = λ w es is. (all_shut w es is).1;
    same_count = λ w es is. ap (λ l. answer_to next reply (record w { accepted = l }) Shut) (all_shut w es is).1;
    settled = take_settled;
    stays_settled = all_settled;
    settled_for_good = λ w es h is. settled_take (after_all next reply w es) (after_all_lawful next reply w es h) (all_settled w es h is);
    all_collected = none_left_to_collect;
    more_accepted = λ w es. (all_longer w es).0;
    more_answers = λ w es. (all_longer w es).1;
  }
