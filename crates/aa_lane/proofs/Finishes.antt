-- The step that publishes an answer.
use Rattle.std.proofs.Common.{◌≡◌, ◌≢◌, ℕ, ◌+◌, ◌%◌, ◌<◌, inl, inr, length-take, true, false, List, [], ◌∷◌, length, take, set, refl, sym, ap, ◌∙◌, subst, arith, slice_get, Some, length-append, ne_eqb}
use Rattle.std.proofs.lemmas.List.{length-set, get_or-set_same, get_or-set_other}
use Rattle.std.proofs.lemmas.Option.{slice_get_within}
use mathlib.Core.Option.{Option, some, none}
use lib.ListN.{get_elem?}
use Rattle.atomic_table.specs.Table.{State, step, gives, stepped, Allows}
use Rattle.atomic_table.proofs.Lists.{set_else, set_here, one_turn}
use Rattle.aa_lane.specs.WorldState.{WorldState, answer_to}
use Rattle.aa_lane.specs.Log.{same}
use Rattle.aa_lane.specs.declared.cells.Who.TheVariants.{ByOwner, ByServer, ByShutter}
use Rattle.aa_lane.specs.Shows.{Shows, HasLog, Fits, OwnerFits, ServerFits, role}
use Rattle.aa_lane.specs.declared.event.Event.TheVariants.{Finish}
use Rattle.aa_lane.specs.declared.event.Reply.TheVariants.{Finished}
use Rattle.aa_lane.specs.declared.cells.Cell.{Cell}
use Rattle.aa_lane.specs.declared.cells.Cell.TheVariants.{Answered}
use Rattle.aa_lane.specs.declared.cells.Entry.{Entry}
use Rattle.aa_lane.specs.declared.cells.View.{View}
use Rattle.aa_lane.specs.declared.cells.Key.{Key}
use Rattle.aa_lane.proofs.ShutBy.{step_shut_by}
use Rattle.aa_lane.proofs.Stays.{keep_filled, keep_seats, logged, makes, log_with, world}
use Rattle.aa_machine.specs.Run.{state_after}
use Rattle.aa_lane.specs.Plays.{finished, finished_view}
use Rattle.aa_lane.proofs.Rows.{snoc_cases, get_take, take_take}
use Rattle.aa_lane.proofs.WorldStates.{answering, answering_lawful, finishes}

module _ {M S Q A : Type 0} (next : M → S → Q → S) (reply : M → S → Q → A) where
  module _ (s : State (Cell M S Q A) (View M S Q A)) (w : WorldState M S Q A) (h : Shows next reply s w) (id : ℕ) (v : View M S Q A) (q : Q) (a : A)
      (at : get_elem? s.views id ≡ some v) (serves : v.serves ≡ true) (busy : length v.server.taken ≡ v.server.done + 1) (job : slice_get v.server.taken v.server.done ≡ Some q)
      (decided : (m : M) (t : S) → v.terms ≡ Some (m, t) → a ≡ reply m (state_after (next m) (reply m) t (take v.server.done v.server.taken)) q) where
    fits : ServerFits w v.server
    fits = (h.seats ByServer id v at serves).2

    pub began : w.taken ≡ length w.answers + 1
    began =
        let n : length (take w.taken w.accepted) ≡ v.server.done + 1 = ap length (sym fits.taken) ∙ busy in
        let t = h.lawful.sent in let d = fits.done in
        omega (arith, length-take w.taken w.accepted)

    pub there_is : slice_get w.accepted (length w.answers) ≡ Some q
    there_is = subst (λ i. slice_get w.accepted i ≡ Some q) fits.done (get_take w.accepted w.taken v.server.done q (subst (λ l. slice_get l v.server.done ≡ Some q) fits.taken job))

    taken_part : take v.server.done v.server.taken ≡ take (length w.answers) w.accepted
    taken_part = let b = began in let d = fits.done in
        ap (take v.server.done) fits.taken ∙ take_take v.server.done w.taken w.accepted (omega arith) ∙ ap (λ i. take i w.accepted) d

    answer_is : a ≡ reply w.machine w.state q
    answer_is = decided w.machine w.start (h.seats ByServer id v at serves).1 ∙ rw (taken_part, ← h.lawful.reached) refl

    pub finish_one : (log : List (Entry M S Q A)) → Shows next reply (stepped s 16 (v.server.done + 1) id ((v.server.done % length s.homes, Answered q a) ∷ []) (finished_view v log) gives) (answering next reply w q)
    finish_one log =
        let b = began in let d = fits.done in
        let t = h.lawful.sent in let g = h.lawful.gotten in let room = h.lawful.room in let c = h.capacity in
        let w' : WorldState M S Q A = answering next reply w q in
        let n : length w'.answers ≡ length w.answers + 1 = length-append w.answers (reply w.machine w.state q ∷ []) in
        let slot : ℕ = v.server.done % length s.homes in
        let lt : slot < length s.homes = let r = h.roomy in omega arith in
        let hs : List (Option (Cell M S Q A)) = set s.homes slot (some (Answered q a)) in
        let homes : length hs ≡ length s.homes = length-set s.homes slot (some (Answered q a)) in
        let ne : w.taken ≢ length w.answers = λ e. omega arith in
        let owner : (u : View M S Q A) → OwnerFits s.homes w u.owner → OwnerFits hs w' u.owner = λ u f.
        record {
          sent = f.sent;
          got = f.got;
          found = let z = f.found in omega arith;
          closed = f.closed;
          left = f.left;
          free = λ r i low high. rw homes
              (set_else s.homes slot (i % length s.homes) (some (Answered q a))
              (λ e. let y : v.server.done ≡ i = one_turn v.server.done i (length s.homes) (omega arith) (omega arith) (sym e) in omega arith)
              ∙ f.free r i low high);
          fresh = λ r. let z = (f.fresh r).0 in absurd (omega arith);
        } in
        record {
          lawful = answering_lawful next reply w q h.lawful ne there_is;
          capacity = h.capacity ∙ sym homes;
          roomy = rw homes h.roomy;
          wide = length-set s.words 16 (v.server.done + 1) ∙ h.wide;
          gate = rw (get_or-set_other s.words 16 0 (v.server.done + 1) 0 (λ e. omega arith)) h.gate;
          done = rw (get_or-set_same s.words 16 (v.server.done + 1) 0 (let u = h.wide in omega arith)) (omega arith);
          waiting = λ m r low e'. let in_sent : m < length w.accepted = slice_get_within w.accepted m r e' in
              rw homes (set_else s.homes slot (m % length s.homes) (some (Answered q a)) (λ f. let z : v.server.done ≡ m = one_turn v.server.done m (length s.homes) (omega arith) (omega arith) (sym f) in omega arith)
              ∙ h.waiting m r low e');
          answered = λ m r y low e' f'. rw homes (elim (snoc_cases w.answers (reply w.machine w.state q) m y f') [
            | inl p ↦ let in_answers : m < length w.answers = slice_get_within w.answers m y p in
                set_else s.homes slot (m % length s.homes) (some (Answered q a)) (λ f. let z : m ≡ v.server.done = one_turn m v.server.done (length s.homes) (omega arith) (omega arith) f in omega arith)
                ∙ h.answered m r y low e' p
            | inr p ↦
                let at_done : m ≡ v.server.done = p.0 ∙ sym d in
                let q_is : q ≡ r = let z : Some r ≡ Some q = sym e' ∙ subst (λ i. slice_get w.accepted i ≡ Some q) (sym p.0) there_is in cc in
                rw (at_done, set_here s.homes slot (some (Answered q a)) lt, answer_is, p.1, q_is) refl
          ]);
          in_hand = λ m low high. absurd (omega arith);
          seat = h.seat;
          filled = keep_filled s.views h.seat id v (finished_view v log) h.filled at (λ a. elim a as (λ a. role a (finished_view v log) ≡ role a v) [ ByOwner ↦ refl | ByServer ↦ refl | ByShutter ↦ refl ]);
          seats = keep_seats s.views h.seat s.homes hs w w' ByServer id v (finished_view v log) h.seats at serves
              (λ a. elim a as (λ a. role a (finished_view v log) ≡ role a v) [ ByOwner ↦ refl | ByServer ↦ refl | ByShutter ↦ refl ]) refl refl refl
              (λ a. elim a as (λ a. Fits a s.homes w v → Fits a hs w' (finished_view v log)) [
                | ByOwner ↦ owner v
                | ByServer ↦ λ f. record { taken = f.taken; done = omega arith; seen = f.seen; settled = λ e. let z = (f.settled e).1 in absurd (omega arith) }
                | ByShutter ↦ λ f. record { count = f.count }
              ])
              (λ a. elim a as (λ a. (u : View M S Q A) → same a ByServer ≡ false → Fits a s.homes w u → Fits a hs w' u) [
                | ByOwner ↦ λ u e f. owner u f
                | ByServer ↦ λ u e f. let z : true ≡ false = e in cc
                | ByShutter ↦ λ u e f. record { count = f.count }
              ]);
          shut_by = step_shut_by s.views id v (finished_view v log) w.shut at (λ o. o) (λ o. o) (λ e. e) (λ e. e) (λ e. e) h.shut_by;
        }

module _ {M S Q A : Type 0} (next : M → S → Q → S) (reply : M → S → Q → A) (k : Key M S Q A) where
  -- the store of the done word
  pub finishes_step : (c id : ℕ) (v : View M S Q A) (q : Q) (a : A) → v.serves ≡ true → length v.server.taken ≡ v.server.done + 1 → slice_get v.server.taken v.server.done ≡ Some q
      → ((m : M) (t : S) → v.terms ≡ Some (m, t) → a ≡ reply m (state_after (next m) (reply m) t (take v.server.done v.server.taken)) q)
      → Allows (HasLog next reply k) c id (v, (v.server.done % c, Answered q a) ∷ []) 16 (λ _. v.server.done + 1)
      (λ _. finished next reply (step c 16 (v.server.done + 1) 0 none) (v, (v.server.done % c, Answered q a) ∷ []) (v.server.done + 1))
  finishes_step c id v q a serves busy job decided s held len at small =
      let w : WorldState M S Q A = world next reply k s held in
      let h : Shows next reply s w = held.shows in
      let b = began next reply s w h id v q a at serves busy job decided in
      let ne : w.taken ≢ length w.answers = λ e. omega arith in
      let d = (h.seats ByServer id v at serves).2.done in
      let told : Finished v.server.done ≡ answer_to next reply w Finish = rw (ne_eqb w.taken (length w.answers) ne) (ap Finished d) in
      let log : List (Entry M S Q A) = log_with next reply k s held ByServer Finish (Finished v.server.done) in
      let kept = logged next reply k s held _ _ id v (finished_view v log) ByServer Finish (Finished v.server.done) (answering next reply w q) at serves
      (λ a. elim a as (λ a. role a (finished_view v log) ≡ role a v) [ ByOwner ↦ refl | ByServer ↦ refl | ByShutter ↦ refl ])
      (elim [ ByOwner ↦ refl | ByServer ↦ refl | ByShutter ↦ refl ]) refl
      (finishes next reply w q ne (there_is next reply s w h id v q a at serves busy job decided)) told (finish_one next reply s w h id v q a at serves busy job decided log) in
      (finished_view v log, gives, tt, rw (← len) kept, (refl, makes next reply k s held c id v (finished_view v log) ByServer Finish (Finished v.server.done) len at serves told refl))
