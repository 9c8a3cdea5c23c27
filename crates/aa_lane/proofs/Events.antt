-- Each step of a seat is an event of the world.
use Rattle.std.proofs.Common.{◌≡◌, ◌≢◌, ℕ, ◌+◌, ◌*◌, ◌/◌, ◌%◌, ◌<◌, ◌≤◌, ◌==◌, cond, lt-ltb, le-ltb, true, false, length, refl, sym, ap, ◌∙◌, subst, arith, slice_index, Some, eq-eqb, ne_eqb}
use Rattle.atomic_table.specs.Table.{State}
use Rattle.aa_lane.specs.WorldState.{WorldState, after, answer_to}
use Rattle.aa_lane.specs.declared.cells.Who.TheVariants.{ByOwner, ByServer, ByShutter}
use Rattle.aa_lane.specs.Shows.{Shows, Fits, role, bit}
use Rattle.aa_lane.specs.declared.event.SendFault.TheVariants.{Closed}
use Rattle.aa_lane.specs.declared.event.Event.{Event}
use Rattle.aa_lane.specs.declared.event.Event.TheVariants.{Send, Take, Finish, Collect, Shut}
use Rattle.aa_lane.specs.declared.event.Reply.{Reply}
use Rattle.aa_lane.specs.declared.event.Reply.TheVariants.{Accepted, Unsent, Taken, Idle, Settled, Finished, Given, Nothing, Count}
use Rattle.aa_lane.specs.declared.cells.Cell.{Cell}
use Rattle.aa_lane.specs.declared.cells.View.{View}
use Rattle.aa_lane.proofs.Stays.{world}
use Rattle.aa_lane.specs.Law.{IsEvent, StepsAreEvents, NotesStayTrue}
use Rattle.aa_lane.proofs.Opens.{opens_one, readies_one, splits_server_one, splits_shutter_one, joins_server_one, joins_shutter_one}
use Rattle.aa_lane.specs.Plays.{shut_view, left_view}
use Rattle.aa_lane.proofs.Shown.{shows_one}
use Rattle.aa_lane.proofs.Rows.{there}
use Rattle.aa_lane.proofs.WorldStates.{answering, finishes}
use Rattle.aa_lane.proofs.Sends.{sending, after_send, not_spent, not_full, sent_unshut, sent_shut}
use Rattle.aa_lane.proofs.Takes.{taking, after_take, free, take_none, take_more_one}
use Rattle.aa_lane.proofs.Finishes.{began, there_is, finish_one}
use Rattle.aa_lane.proofs.Collects.{collecting, after_collect, collect_none, collect_one}
use Rattle.aa_lane.proofs.Shuts.{shutting, shut_one, shut_fits, half}

module _ {M S Q A : Type 0} (next : M → S → Q → S) (reply : M → S → Q → A) where
  event_of : (s : State (Cell M S Q A) (View M S Q A)) (w w' : WorldState M S Q A) (e : Event M S Q A) (r : Reply M S Q A) → w' ≡ after next reply w e
      → r ≡ answer_to next reply w e → Shows next reply s w' → IsEvent next reply s w e r
  event_of s w w' e r is told shows = record { shows = subst (Shows next reply s) is shows; replied = told }

  gate_open : (s : State (Cell M S Q A) (View M S Q A)) (w : WorldState M S Q A) (n : ℕ) → Shows next reply s w → length w.accepted ≡ n → slice_index s.words 0 ≡ 2 * n → w.shut ≡ false
  gate_open s w n h count e = elim w.shut as (λ b. slice_index s.words 0 ≡ 2 * length w.accepted + bit b → b ≡ false) [ true ↦ λ g. absurd (omega arith) | false ↦ λ g. refl ] h.gate

  gate_shut : (s : State (Cell M S Q A) (View M S Q A)) (w : WorldState M S Q A) (n : ℕ) → Shows next reply s w → length w.accepted ≡ n → slice_index s.words 0 ≢ 2 * n → w.shut ≡ true
  gate_shut s w n h count e = elim w.shut as (λ b. slice_index s.words 0 ≡ 2 * length w.accepted + bit b → b ≡ true) [ true ↦ λ g. refl | false ↦ λ g. absurd (e (omega arith)) ] h.gate

  gate_odd : (s : State (Cell M S Q A) (View M S Q A)) (w : WorldState M S Q A) → Shows next reply s w → (slice_index s.words 0 % 2 == 1) ≡ w.shut
  gate_odd s w h = let g : ℕ = slice_index s.words 0 in
      elim w.shut as (λ b. g ≡ 2 * length w.accepted + bit b → (g % 2 == 1) ≡ b) [
        | true ↦ λ e. let z : g % 2 ≡ 1 = omega arith in eq-eqb _ _ z
        | false ↦ λ e. let z : g % 2 ≢ 1 = λ o. omega arith in ne_eqb _ _ z
      ] h.gate

  pub steps_are_events : StepsAreEvents next reply
  steps_are_events = record {
    one = shows_one next reply;
    opens = opens_one next reply;
    readies = λ s w id v st owns ready. readies_one next reply s w st.shows id (length s.homes) v st.at owns ready refl;
    splits_server = λ s w id v st is. splits_server_one next reply s w st.shows id v st.at is;
    splits_shutter = λ s w id v st is. splits_shutter_one next reply s w st.shows id v st.at is;
    joins_server = λ s w id v other u st there apart owns is alone. joins_server_one next reply s w st.shows id v other u st.at there apart owns is alone;
    joins_shutter = λ s w id v other u st there apart owns is alone. joins_shutter_one next reply s w st.shows id v other u st.at there apart owns is alone;
    sends = λ s w id v log q held st owns ready spent gotten room gate.
        let h = st.shows in
        let count : length w.accepted ≡ length v.owner.sent = ap length (sym (h.seats ByOwner id v st.at owns).2.sent) in
        let unshut = gate_open s w (length v.owner.sent) h count gate in
        let d = after_send next reply w q (not_spent next reply s w h id v q held st.at owns ready spent gotten room) (not_full next reply s w h id v q held st.at owns ready spent gotten room) false unshut in
        event_of _ w (sending next reply w q) (Send q) (Accepted (length v.owner.sent)) (sym d.0) (ap Accepted (sym count) ∙ sym d.1)
        (sent_unshut next reply s w h id v q held st.at owns ready spent gotten room log unshut (2 * length v.owner.sent + 2) refl);
    closed = λ s w id v log q held st owns stayed ready spent gotten room gate.
        let h = st.shows in
        let count : length w.accepted ≡ length v.owner.sent = ap length (sym (h.seats ByOwner id v st.at owns).2.sent) in
        let is = gate_shut s w (length v.owner.sent) h count gate in
        let d = after_send next reply w q (not_spent next reply s w h id v q held st.at owns ready spent gotten room) (not_full next reply s w h id v q held st.at owns ready spent gotten room) true is in
        event_of _ w w (Send q) (Unsent Closed q) (sym d.0) (sym d.1)
        (sent_shut next reply s w h id v q held st.at owns ready spent gotten room log is stayed);
    takes_one = λ s w id v log st serves idle more.
        let h = st.shows in
        let d = (h.seats ByServer id v st.at serves).2.done in
        let f = free next reply s w h id v st.at serves idle in
        let count = half next reply s w h in
        let z : w.taken < length w.accepted = omega arith in
        let q = there w.accepted w.taken z in
        let number : v.server.done ≡ w.taken = omega arith in
        let does = after_take next reply w (omega arith) true (lt-ltb w.taken (length w.accepted) z) in
        let r = take_more_one next reply s w h id v st.at serves idle log (slice_index s.words 0) (slice_index s.words 0 / 2) q.0 refl count more q.1 in
        (q.0, r.0, event_of _ w (taking next reply w) Take (Taken v.server.done) (sym does.0) (ap Taken number ∙ sym does.1) r.1);
    takes_none = λ s w id v log st serves idle none_now.
        let h = st.shows in
        let d = (h.seats ByServer id v st.at serves).2.done in
        let f = free next reply s w h id v st.at serves idle in
        let count = half next reply s w h in
        let odd = gate_odd s w h in
        let z : length w.accepted ≤ w.taken = omega arith in
        let does = after_take next reply w (omega arith) false (le-ltb w.taken (length w.accepted) z) in
        event_of _ w w Take (cond (slice_index s.words 0 % 2 == 1) Settled Idle) (sym does.0) (rw odd (sym does.1))
        (take_none next reply s w h id v st.at serves idle log (slice_index s.words 0) (slice_index s.words 0 / 2) (slice_index s.words 0 % 2 == 1) refl count none_now (λ o. sym odd ∙ o));
    finishes = λ s w id v log q a st serves busy job decided.
        let h = st.shows in
        let b = began next reply s w h id v q a st.at serves busy job decided in
        let ne : w.taken ≢ length w.answers = λ e. omega arith in
        let d = (h.seats ByServer id v st.at serves).2.done in
        event_of _ w (answering next reply w q) Finish (Finished v.server.done) (finishes next reply w q ne (there_is next reply s w h id v q a st.at serves busy job decided))
        (rw (ne_eqb w.taken (length w.answers) ne) (ap Finished d)) (finish_one next reply s w h id v q a st.at serves busy job decided log);
    collects_one = λ s w id v log held st owns ready more.
        let h = st.shows in
        let f = (h.seats ByOwner id v st.at owns).2 in
        let dn = h.done in let gt = f.got in let bg = h.lawful.begun in let t = h.lawful.sent in
        let z : w.collected < length w.answers = omega arith in
        let y : w.collected < length w.accepted = omega arith in
        let q = there w.accepted w.collected y in
        let a = there w.answers w.collected z in
        let r = collect_one next reply s w h id v st.at owns ready (slice_index s.words 16) refl log held q.0 a.0 more q.1 a.1 in
        let does = after_collect next reply w true (lt-ltb w.collected (length w.answers) z) in
        (q.0, a.0, r.0, event_of _ w (collecting next reply w) Collect (Given v.owner.got) (sym does.0) (ap Given gt ∙ sym does.1) r.1);
    collects_none = λ s w id v log held st owns ready le.
        let h = st.shows in
        let dn = h.done in let gt = (h.seats ByOwner id v st.at owns).2.got in
        let z : length w.answers ≤ w.collected = omega arith in
        let does = after_collect next reply w false (le-ltb w.collected (length w.answers) z) in
        event_of _ w w Collect Nothing (sym does.0) (sym does.1) (collect_none next reply s w h id v st.at owns ready (slice_index s.words 16) refl log held le);
    shuts = λ s w id v log held st is.
        let h = st.shows in
        let n : ℕ = slice_index s.words 0 / 2 in
        let count : n ≡ length w.accepted = half next reply s w h in
        event_of _ w (shutting next reply w) Shut (Count n) refl (ap Count count)
        (shut_one next reply s w h id held ByShutter v (shut_view v n log) st.at is
        (λ a. elim a as (λ a. role a (shut_view v n log) ≡ role a v) [ ByOwner ↦ refl | ByServer ↦ refl | ByShutter ↦ refl ]) refl refl (λ e. e) (λ _. refl) (λ e. e)
        (λ a. elim a as (λ a. Fits a s.homes w v → Fits a s.homes (shutting next reply w) (shut_view v n log)) [
          | ByOwner ↦ λ f. shut_fits next reply s.homes w ByOwner v f
          | ByServer ↦ λ f. shut_fits next reply s.homes w ByServer v f
          | ByShutter ↦ λ f. record { count = λ c e. (refl, let z : Some n ≡ Some c = e in let y : n ≡ c = cc in sym y ∙ count) }
        ]));
    exits = λ s w id v log held st is.
        let h = st.shows in
        let count : length v.owner.sent ≡ length w.accepted = ap length (h.seats ByOwner id v st.at is).2.sent in
        event_of _ w (shutting next reply w) Shut (Count (length v.owner.sent)) refl (ap Count count)
        (shut_one next reply s w h id held ByOwner v (left_view v log) st.at is
        (λ a. elim a as (λ a. role a (left_view v log) ≡ role a v) [ ByOwner ↦ refl | ByServer ↦ refl | ByShutter ↦ refl ]) refl refl (λ _. refl) (λ e. e) (λ e. e)
        (λ a. elim a as (λ a. Fits a s.homes w v → Fits a s.homes (shutting next reply w) (left_view v log)) [
          | ByOwner ↦ λ f. record { sent = f.sent; got = f.got; found = f.found; closed = λ _. refl; left = λ _. refl; free = f.free; fresh = f.fresh }
          | ByServer ↦ λ f. shut_fits next reply s.homes w ByServer v f
          | ByShutter ↦ λ f. shut_fits next reply s.homes w ByShutter v f
        ]));
  }

  shut_gate : (s : State (Cell M S Q A) (View M S Q A)) (w : WorldState M S Q A) → Shows next reply s w → w.shut ≡ true → slice_index s.words 0 ≡ 2 * length w.accepted + 1
  shut_gate s w h e = h.gate ∙ ap (λ b. 2 * length w.accepted + bit b) e

  pub notes_stay_true : NotesStayTrue next reply
  notes_stay_true k s all =
      let w : WorldState M S Q A = world next reply k s all in
      let h : Shows next reply s w = all.shows in
      let count = half next reply s w h in
      let done = h.done in
      record {
        closed = λ j v at owns e. let g = shut_gate s w h ((h.seats ByOwner j v at owns).2.closed e) in omega arith;
        closed_by = λ j k o u at owns e there shuts. h.shut_by.closed j k o u at owns there shuts e;
        left = λ j v at owns e. let f = (h.seats ByOwner j v at owns).2 in shut_gate s w h (f.left e) ∙ ap (λ l. 2 * length l + 1) (sym f.sent);
        counted = λ j c v at shuts e. let f = (h.seats ByShutter j v at shuts).2.count c e in shut_gate s w h f.0 ∙ ap (λ n. 2 * n + 1) (sym f.1);
        settled = λ j v at serves e. let f = (h.seats ByServer j v at serves).2.settled e in let g = shut_gate s w h f.0 in let n = f.1 in omega arith;
        found = λ j v at owns. let f = (h.seats ByOwner j v at owns).2.found in omega arith;
        seen = λ j v at serves. let f = (h.seats ByServer j v at serves).2.seen in omega arith;
      }
