-- The step that takes a request, or finds none.
use Rattle.std.proofs.Common.{◌≡◌, ◌≢◌, ℕ, ◌+◌, ◌*◌, ◌/◌, ◌%◌, ◌<◌, ◌≤◌, ◌==◌, inl, inr, cond, nat_lt, lt-ltb}
use Rattle.std.proofs.Common.{le-ltb, ltb-true, ltb-false, length-take, Bool, true, false, List, [], ◌∷◌, ◌++◌, length, take, set, refl, sym, ap}
use Rattle.std.proofs.Common.{◌∙◌, subst, arith, slice_get, slice_set, slice_index, Some, eq-eqb, eqb-true, ne_eqb}
use Rattle.std.proofs.lemmas.List.{length-set, set-get_or, take_more}
use Rattle.std.proofs.lemmas.Option.{slice_get_within, get_or_from_slice_get}
use mathlib.Core.Option.{Option, some, none}
use lib.ListN.{get_elem?}
use Rattle.atomic_table.specs.Table.{State, step, Act, keeps, takes, Valid, stepped, Allows, carried_after}
use Rattle.atomic_table.proofs.Lists.{set_else, set_here, one_turn}
use Rattle.aa_lane.specs.WorldState.{WorldState, after, answer_to}
use Rattle.aa_lane.specs.Log.{same}
use Rattle.aa_lane.specs.declared.cells.Who.TheVariants.{ByOwner, ByServer, ByShutter}
use Rattle.aa_lane.specs.Shows.{Shows, HasLog, Fits, OwnerFits, ServerFits, role, bit}
use Rattle.aa_lane.specs.declared.event.Event.TheVariants.{Take}
use Rattle.aa_lane.specs.declared.event.Reply.TheVariants.{Taken, Idle, Settled}
use Rattle.aa_lane.specs.declared.cells.Cell.{Cell}
use Rattle.aa_lane.specs.declared.cells.Cell.TheVariants.{Asked}
use Rattle.aa_lane.specs.declared.cells.Entry.{Entry}
use Rattle.aa_lane.specs.declared.cells.View.{View}
use Rattle.aa_lane.specs.declared.cells.Key.{Key}
use Rattle.aa_lane.proofs.ShutBy.{step_shut_by}
use Rattle.aa_lane.proofs.Stays.{keep_filled, keep_seats, stays, logged, makes, log_with, world}
use Rattle.aa_lane.specs.Plays.{took, is_taken, StillSettled, taken_view, idle_view}
use Rattle.aa_lane.proofs.Lawful.{taking_lawful}
use Rattle.aa_lane.proofs.Rows.{there, or_cases}

module _ {M S Q A : Type 0} (next : M → S → Q → S) (reply : M → S → Q → A) where
  abbrev pub taking : WorldState M S Q A → WorldState M S Q A
  taking w = record w { taken = w.taken + 1 }

  pub after_take : (w : WorldState M S Q A) → w.taken ≤ length w.answers → (b : Bool) → nat_lt w.taken (length w.accepted) ≡ b
      → (after next reply w Take ≡ cond b (taking w) w) × (answer_to next reply w Take ≡ cond b (Taken w.taken) (cond w.shut Settled Idle))
  after_take w free b e = (rw (le-ltb (length w.answers) w.taken free, e) refl, rw (le-ltb (length w.answers) w.taken free, e) refl)

  module _ (s : State (Cell M S Q A) (View M S Q A)) (w : WorldState M S Q A) (h : Shows next reply s w) (id : ℕ) (v : View M S Q A)
      (at : get_elem? s.views id ≡ some v) (serves : v.serves ≡ true) (idle : length v.server.taken ≡ v.server.done) where
    fits : ServerFits w v.server
    fits = (h.seats ByServer id v at serves).2

    pub free : w.taken ≡ length w.answers
    free =
        let n : length (take w.taken w.accepted) ≡ v.server.done = ap length (sym fits.taken) ∙ idle in
        let t = h.lawful.sent in let d = fits.done in
        omega (arith, length-take w.taken w.accepted)

    pub take_none : (log : List (Entry M S Q A)) (x n : ℕ) (odd : Bool) → x ≡ slice_index s.words 0 → n ≡ length w.accepted → n ≤ v.server.done → (odd ≡ true → w.shut ≡ true)
        → Shows next reply (stepped s 0 x id [] (idle_view v n odd log) keeps) w
    take_none log x n odd is count none_now shut =
        let f0 = free in let d = fits.done in let t = h.lawful.sent in
        stays next reply s w h 0 x id [] ByServer v (idle_view v n odd log) is at serves
        (λ a. elim a as (λ a. role a (idle_view v n odd log) ≡ role a v) [ ByOwner ↦ refl | ByServer ↦ refl | ByShutter ↦ refl ]) refl
        (step_shut_by s.views id v (idle_view v n odd log) w.shut at (λ o. o) (λ o. o) (λ e. e) (λ e. e) (λ e. e) h.shut_by)
        (λ a. elim a as (λ a. Fits a s.homes w v → Fits a s.homes w (idle_view v n odd log)) [
          | ByOwner ↦ λ f. f
          | ByServer ↦ λ f. record {
            taken = f.taken;
            done = f.done;
            seen = omega arith;
            settled = λ e. elim (or_cases v.server.settled odd e) [ inl p ↦ f.settled p | inr p ↦ (shut p, omega arith) ];
          }
          | ByShutter ↦ λ f. f
        ])

    pub take_more_one : (log : List (Entry M S Q A)) (x n : ℕ) (q : Q) → x ≡ slice_index s.words 0 → n ≡ length w.accepted → v.server.done < n → slice_get w.accepted w.taken ≡ Some q
        → (get_elem? s.homes (v.server.done % length s.homes) ≡ some (some (Asked q)))
        × Shows next reply (stepped s 0 x id [] (taken_view v n q log) (takes (v.server.done % length s.homes) (Asked q))) (taking w)
    take_more_one log x n q is count more e =
        let f0 = free in let d = fits.done in
        let t = h.lawful.sent in let g = h.lawful.gotten in let room = h.lawful.room in let c = h.capacity in
        let lt : w.taken < length w.accepted = omega arith in
        let at_taken : v.server.done ≡ w.taken = omega arith in
        let home : get_elem? s.homes (v.server.done % length s.homes) ≡ some (some (Asked q)) = subst (λ i. get_elem? s.homes (i % length s.homes) ≡ some (some (Asked q))) (sym at_taken) (h.waiting w.taken q (omega arith) e) in
        let slot : ℕ = v.server.done % length s.homes in
        let hs : List (Option (Cell M S Q A)) = set s.homes slot none in
        let homes : length hs ≡ length s.homes = length-set s.homes slot none in
        let words : slice_set s.words 0 x ≡ s.words = rw is (set-get_or s.words 0 0) in
        let owner : (u : View M S Q A) → OwnerFits s.homes w u.owner → OwnerFits hs (taking w) u.owner = λ u f.
        record {
          sent = f.sent;
          got = f.got;
          found = f.found;
          closed = f.closed;
          left = f.left;
          free = λ r i low high. rw homes
              (set_else s.homes slot (i % length s.homes) none
              (λ e. let y : w.taken ≡ i = one_turn w.taken i (length s.homes) (omega arith) (omega arith)
              (ap (λ k. k % length s.homes) (sym at_taken) ∙ sym e) in omega arith) ∙ f.free r i low high);
          fresh = λ r. let z = (f.fresh r).0 in absurd (omega arith);
        } in (
          home,
          record {
            lawful = taking_lawful next reply w h.lawful (omega arith) lt;
            capacity = h.capacity ∙ sym homes;
            roomy = rw homes h.roomy;
            wide = rw words h.wide;
            gate = rw words h.gate;
            done = rw words h.done;
            waiting = λ m r low e'. let in_sent : m < length w.accepted = slice_get_within w.accepted m r e' in
                rw homes
                (set_else s.homes slot (m % length s.homes) none
                (λ f. let z : w.taken ≡ m = one_turn w.taken m (length s.homes) (omega arith) (omega arith)
                (ap (λ i. i % length s.homes) (sym at_taken) ∙ sym f) in omega arith)
                ∙ h.waiting m r (omega arith) e');
            answered = λ m r a low e' f'. let in_answers : m < length w.answers = slice_get_within w.answers m a f' in
                rw homes (set_else s.homes slot (m % length s.homes) none (λ f. let z : m ≡ w.taken = one_turn m w.taken (length s.homes) (omega arith) (omega arith) (f ∙ ap (λ i. i % length s.homes) at_taken) in omega arith)
                ∙ h.answered m r a low e' f');
            in_hand = λ m low high. rw homes (let is : m % length s.homes ≡ slot = ap (λ i. i % length s.homes) (let y : m ≡ v.server.done = omega arith in y) in rw is (set_here s.homes slot none (let r = h.roomy in omega arith)));
            seat = h.seat;
            filled = keep_filled s.views h.seat id v (taken_view v n q log) h.filled at (λ a. elim a as (λ a. role a (taken_view v n q log) ≡ role a v) [ ByOwner ↦ refl | ByServer ↦ refl | ByShutter ↦ refl ]);
            seats = keep_seats s.views h.seat s.homes hs w (taking w) ByServer id v (taken_view v n q log) h.seats at serves
                (λ a. elim a as (λ a. role a (taken_view v n q log) ≡ role a v) [ ByOwner ↦ refl | ByServer ↦ refl | ByShutter ↦ refl ]) refl refl refl
                (λ a. elim a as (λ a. Fits a s.homes w v → Fits a hs (taking w) (taken_view v n q log)) [
                  | ByOwner ↦ owner v
                  | ByServer ↦ λ f. record {
                    taken = ap (λ l. l ++ q ∷ []) f.taken ∙ ap (λ y. take w.taken w.accepted ++ y ∷ []) (sym (get_or_from_slice_get w.accepted w.taken q q e)) ∙ sym (take_more w.accepted w.taken q lt);
                    done = f.done;
                    seen = omega arith;
                    settled = f.settled;
                  }
                  | ByShutter ↦ λ f. record { count = f.count }
                ])
                (λ a. elim a as (λ a. (u : View M S Q A) → same a ByServer ≡ false → Fits a s.homes w u → Fits a hs (taking w) u) [
                  | ByOwner ↦ λ u e f. owner u f
                  | ByServer ↦ λ u e f. let z : true ≡ false = e in cc
                  | ByShutter ↦ λ u e f. record { count = f.count }
                ]);
            shut_by = step_shut_by s.views id v (taken_view v n q log) w.shut at (λ o. o) (λ o. o) (λ e. e) (λ e. e) (λ e. e) h.shut_by;
          },
        )

module _ {M S Q A : Type 0} (next : M → S → Q → S) (reply : M → S → Q → A) (k : Key M S Q A) where
  -- a load of the gate
  pub takes_step : (c id : ℕ) (v : View M S Q A) → v.serves ≡ true → length v.server.taken ≡ v.server.done → Allows (HasLog next reply k) c id (v, []) 0 (λ n. n) (took next reply (step c 0 0 0 none) (v, []))
  takes_step c id v serves idle s held len at small =
      let w : WorldState M S Q A = world next reply k s held in
      let h : Shows next reply s w = held.shows in
      let g : ℕ = slice_index s.words 0 in
      let count : g / 2 ≡ length w.accepted = elim w.shut as (λ b. g ≡ 2 * length w.accepted + bit b → g / 2 ≡ length w.accepted) [ true ↦ λ e. omega arith | false ↦ λ e. omega arith ] h.gate in
      let odd : (g % 2 == 1) ≡ w.shut = elim w.shut as (λ b. g ≡ 2 * length w.accepted + bit b → (g % 2 == 1) ≡ b) [
        | true ↦ λ e. let z : g % 2 ≡ 1 = omega arith in eq-eqb _ _ z
        | false ↦ λ e. let z : g % 2 ≢ 1 = λ o. omega arith in ne_eqb _ _ z
      ] h.gate in
      let free' = free next reply s w h id v at serves idle in
      let d = (h.seats ByServer id v at serves).2.done in
      let P : Bool → Type 0 = λ b. (v' : View M S Q A) × (a : Act (Cell M S Q A)) × Valid s.homes [] a × HasLog next reply k
      (stepped s 0 g id [] v' a) × (is_taken next reply b c (g / 2) (g % 2 == 1) (v, []) (v', carried_after [] a) × StillSettled v g) in
      let still : StillSettled v g = λ e. let t = (h.seats ByServer id v at serves).2.settled e in let a = t.1 in let o : (g % 2 == 1) ≡ true = odd ∙ t.0 in (omega arith, eqb-true _ _ o) in
      let by : (b : Bool) → nat_lt v.server.done (g / 2) ≡ b → P b = elim [
        | true ↦ λ e.
            let lt : v.server.done < g / 2 = ltb-true _ _ e in
            let q = there w.accepted w.taken (omega arith) in
            let log : List (Entry M S Q A) = log_with next reply k s held ByServer Take (Taken v.server.done) in
            let r = take_more_one next reply s w h id v at serves idle log g (g / 2) q.0 refl count lt q.1 in
            let z : w.taken < length w.accepted = omega arith in
            let does = after_take next reply w (omega arith) true (lt-ltb w.taken (length w.accepted) z) in
            let number : v.server.done ≡ w.taken = omega arith in
            let kept = logged next reply k s held _ _ id v (taken_view v (g / 2) q.0 log) ByServer Take (Taken v.server.done) (taking next reply w) at serves
            (λ a. elim a as (λ a. role a (taken_view v (g / 2) q.0 log) ≡ role a v) [ ByOwner ↦ refl | ByServer ↦ refl | ByShutter ↦ refl ])
            (elim [ ByOwner ↦ refl | ByServer ↦ refl | ByShutter ↦ refl ]) refl (sym does.0) (ap Taken number ∙ sym does.1) r.1 in (
              taken_view v (g / 2) q.0 log,
              takes (v.server.done % length s.homes) (Asked q.0),
              r.0,
              kept,
              (
                (
                  q.0,
                  rw len refl,
                  makes next reply k s held c id v (taken_view v (g / 2) q.0 log) ByServer Take (Taken v.server.done) len at serves
                      (ap Taken number ∙ sym does.1) refl,
                ),
                still,
              ),
            )
        | false ↦ λ e.
            let le : g / 2 ≤ v.server.done = ltb-false _ _ e in
            let z : length w.accepted ≤ w.taken = omega arith in
            let does = after_take next reply w (omega arith) false (le-ltb w.taken (length w.accepted) z) in
            let log : List (Entry M S Q A) = log_with next reply k s held ByServer Take (cond (g % 2 == 1) Settled Idle) in
            let new = take_none next reply s w h id v at serves idle log g (g / 2) (g % 2 == 1) refl count le (λ o. sym odd ∙ o) in
            let kept = logged next reply k s held _ _ id v (idle_view v (g / 2) (g % 2 == 1) log) ByServer Take (cond (g % 2 == 1) Settled Idle) w at serves
            (λ a. elim a as (λ a. role a (idle_view v (g / 2) (g % 2 == 1) log) ≡ role a v) [ ByOwner ↦ refl | ByServer ↦ refl | ByShutter ↦ refl ])
            (elim [ ByOwner ↦ refl | ByServer ↦ refl | ByShutter ↦ refl ]) refl (sym does.0) (rw odd (sym does.1)) new in (
              idle_view v (g / 2) (g % 2 == 1) log,
              keeps,
              tt,
              kept,
              (
                (
                  refl,
                  makes next reply k s held c id v (idle_view v (g / 2) (g % 2 == 1) log) ByServer Take (cond (g % 2 == 1) Settled Idle) len at serves
                      (rw odd (sym does.1)) refl,
                ),
                still,
              ),
            )
      ] in
      by (nat_lt v.server.done (g / 2)) refl
