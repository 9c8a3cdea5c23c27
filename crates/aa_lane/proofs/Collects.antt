-- The step that collects an answer, or finds none.
use Rattle.std.proofs.Common.{◌≡◌, ℕ, ◌+◌, ◌%◌, ◌<◌, ◌≤◌, ◌==◌, ◌≢◌, inl, inr, eqb-true, false-eqb, cond, nat_lt, lt-ltb}
use Rattle.std.proofs.Common.{le-ltb, ltb-true, ltb-false, Bool, true, false, List, length, set, refl, sym, ap, ◌∙◌, subst, arith, slice_get, slice_set}
use Rattle.std.proofs.Common.{slice_index, Some}
use Rattle.std.proofs.lemmas.List.{length-set, set-get_or}
use Rattle.std.proofs.lemmas.Option.{slice_get_within}
use mathlib.Core.Option.{Option, some, none}
use lib.ListN.{get_elem?}
use Rattle.atomic_table.specs.Table.{State, step, Act, keeps, takes, Valid, stepped, Allows, carried_after}
use Rattle.atomic_table.proofs.Lists.{set_else, set_here, one_turn}
use Rattle.aa_lane.specs.WorldState.{WorldState, after, answer_to}
use Rattle.aa_lane.specs.Log.{same}
use Rattle.aa_lane.specs.declared.cells.Who.TheVariants.{ByOwner, ByServer, ByShutter}
use Rattle.aa_lane.specs.Shows.{Shows, HasLog, Fits, OwnerFits, role}
use Rattle.aa_lane.specs.declared.event.Event.TheVariants.{Collect}
use Rattle.aa_lane.specs.declared.event.Reply.TheVariants.{Given, Nothing}
use Rattle.aa_lane.specs.declared.cells.Cell.{Cell}
use Rattle.aa_lane.specs.declared.cells.Cell.TheVariants.{Answered}
use Rattle.aa_lane.specs.declared.cells.Entry.{Entry}
use Rattle.aa_lane.specs.declared.cells.View.{View}
use Rattle.aa_lane.specs.declared.cells.Key.{Key}
use Rattle.aa_lane.proofs.ShutBy.{step_shut_by}
use Rattle.aa_lane.proofs.Stays.{keep_filled, keep_seats, stays, logged, makes, log_with, world}
use Rattle.aa_lane.specs.Plays.{collected, is_collected, collected_view, uncollected_view, Gives}
use Rattle.aa_lane.proofs.Lawful.{collecting_lawful}
use Rattle.aa_lane.proofs.Rows.{there, same_terms, split_eq}
use Rattle.std.proofs.Math.Nat.{add-mod_right}
use Rattle.aa_lane.proofs.Runs.{replies-take}

module _ {M S Q A : Type 0} (next : M → S → Q → S) (reply : M → S → Q → A) where
  abbrev pub collecting : WorldState M S Q A → WorldState M S Q A
  collecting w = record w { collected = w.collected + 1 }

  pub after_collect : (w : WorldState M S Q A) → (b : Bool) → nat_lt w.collected (length w.answers) ≡ b
      → (after next reply w Collect ≡ cond b (collecting w) w) × (answer_to next reply w Collect ≡ cond b (Given w.collected) Nothing)
  after_collect w b e = (rw e refl, rw e refl)

  module _ (s : State (Cell M S Q A) (View M S Q A)) (w : WorldState M S Q A) (h : Shows next reply s w) (id : ℕ) (v : View M S Q A)
      (at : get_elem? s.views id ≡ some v) (owns : v.owns ≡ true) (ready : v.owner.ready ≡ true) (x : ℕ) (is : x ≡ slice_index s.words 16) where
    fits : OwnerFits s.homes w v.owner
    fits = (h.seats ByOwner id v at owns).2

    pub collect_none : (log : List (Entry M S Q A)) (held : List (ℕ × Cell M S Q A)) → x ≤ v.owner.got → Shows next reply (stepped s 16 x id held (uncollected_view v x log) keeps) w
    collect_none log held le =
        let d = h.done in
        stays next reply s w h 16 x id held ByOwner v (uncollected_view v x log) is at owns
        (λ a. elim a as (λ a. role a (uncollected_view v x log) ≡ role a v) [ ByOwner ↦ refl | ByServer ↦ refl | ByShutter ↦ refl ]) refl
        (step_shut_by s.views id v (uncollected_view v x log) w.shut at (λ o. o) (λ o. o) (λ e. e) (λ e. e) (λ e. e) h.shut_by)
        (λ a. elim a as (λ a. Fits a s.homes w v → Fits a s.homes w (uncollected_view v x log)) [
          | ByOwner ↦ λ f. record { sent = f.sent; got = f.got; found = omega arith; closed = f.closed; left = f.left; free = f.free; fresh = f.fresh }
          | ByServer ↦ λ f. f
          | ByShutter ↦ λ f. f
        ])

    pub collect_tells : (q : Q) (a : A) → slice_get w.accepted w.collected ≡ Some q → slice_get w.answers w.collected ≡ Some a → Gives next reply v v.owner.got q a
    collect_tells q a eq ea = record {
      request = rw (fits.sent, fits.got) eq;
      answer = λ m t terms.
          let both = same_terms v.terms m w.machine t w.start terms (h.seats ByOwner id v at owns).1 in
          let machine : m ≡ w.machine = both.0 in
          let start : t ≡ w.start = both.1 in
          rw (machine, start, fits.sent, fits.got) (replies-take (next w.machine) (reply w.machine) w.start (length w.answers) w.accepted w.collected a
          (subst (λ l. slice_get l w.collected ≡ Some a) h.lawful.answered ea));
    }

    pub collect_one : (log : List (Entry M S Q A)) (held : List (ℕ × Cell M S Q A)) (q : Q) (a : A) → v.owner.got < x → slice_get w.accepted w.collected ≡ Some q → slice_get w.answers w.collected ≡ Some a
        → (get_elem? s.homes (v.owner.got % length s.homes) ≡ some (some (Answered q a)))
        × Shows next reply (stepped s 16 x id held (collected_view v x log) (takes (v.owner.got % length s.homes) (Answered q a))) (collecting w)
    collect_one log held q a more eq ea =
        let dn = h.done in let gt = fits.got in
        let t = h.lawful.sent in let g = h.lawful.gotten in let b = h.lawful.begun in let room = h.lawful.room in let c = h.capacity in
        let lt : w.collected < length w.answers = omega arith in
        let home : get_elem? s.homes (v.owner.got % length s.homes) ≡ some (some (Answered q a)) = subst
        (λ i. get_elem? s.homes (i % length s.homes) ≡ some (some (Answered q a))) (sym gt) (h.answered w.collected q a (omega arith) eq ea) in
        let slot : ℕ = v.owner.got % length s.homes in
        let hs : List (Option (Cell M S Q A)) = set s.homes slot none in
        let homes : length hs ≡ length s.homes = length-set s.homes slot none in
        let words : slice_set s.words 16 x ≡ s.words = rw is (set-get_or s.words 16 0) in
        let out : OwnerFits s.homes w v.owner → (i : ℕ) → length w.accepted ≤ i → i < (w.collected + 1) + w.capacity → get_elem? hs (i % length s.homes) ≡ some none = λ f i low high.
        elim (split_eq (i == w.collected + w.capacity)) [
          | inl e ↦ let is : i ≡ v.owner.got + length s.homes = eqb-true _ _ e ∙ (let y : w.collected + w.capacity ≡ v.owner.got + length s.homes = omega arith in y) in
              rw (is, add-mod_right v.owner.got (length s.homes)) (set_here s.homes slot none (let r = h.roomy in omega arith))
          | inr e ↦ let ne : i ≢ w.collected + w.capacity = false-eqb _ _ (sym e) in
              set_else s.homes slot (i % length s.homes) none (λ k. let y : v.owner.got ≡ i = one_turn v.owner.got i (length s.homes) (omega arith) (omega arith) (sym k) in omega arith) ∙ f.free ready i low (omega arith)
        ] in (
          home,
          record {
            lawful = collecting_lawful next reply w h.lawful lt;
            capacity = h.capacity ∙ sym homes;
            roomy = rw homes h.roomy;
            wide = rw words h.wide;
            gate = rw words h.gate;
            done = rw words h.done;
            waiting = λ m r low e'. let in_sent : m < length w.accepted = slice_get_within w.accepted m r e' in
                rw homes (set_else s.homes slot (m % length s.homes) none (λ f. let z : v.owner.got ≡ m = one_turn v.owner.got m (length s.homes) (omega arith) (omega arith) (sym f) in omega arith)
                ∙ h.waiting m r low e');
            answered = λ m r y low e' f'. let in_answers : m < length w.answers = slice_get_within w.answers m y f' in
                rw homes (set_else s.homes slot (m % length s.homes) none (λ f. let z : v.owner.got ≡ m = one_turn v.owner.got m (length s.homes) (omega arith) (omega arith) (sym f) in omega arith)
                ∙ h.answered m r y (omega arith) e' f');
            in_hand = λ m low high. rw homes
                (set_else s.homes slot (m % length s.homes) none
                (λ k. let y : v.owner.got ≡ m = one_turn v.owner.got m (length s.homes) (omega arith) (omega arith) (sym k) in omega arith)
                ∙ h.in_hand m low high);
            seat = h.seat;
            filled = keep_filled s.views h.seat id v (collected_view v x log) h.filled at (λ a. elim a as (λ a. role a (collected_view v x log) ≡ role a v) [ ByOwner ↦ refl | ByServer ↦ refl | ByShutter ↦ refl ]);
            seats = keep_seats s.views h.seat s.homes hs w (collecting w) ByOwner id v (collected_view v x log) h.seats at owns
                (λ a. elim a as (λ a. role a (collected_view v x log) ≡ role a v) [ ByOwner ↦ refl | ByServer ↦ refl | ByShutter ↦ refl ]) refl refl refl
                (λ a. elim a as (λ a. Fits a s.homes w v → Fits a hs (collecting w) (collected_view v x log)) [
                  | ByOwner ↦ λ f. record {
                    sent = f.sent;
                    got = omega arith;
                    found = omega arith;
                    closed = f.closed;
                    left = f.left;
                    free = λ r i low high. rw homes (out f i low high);
                    fresh = λ r. let z : true ≡ false = sym ready ∙ r in cc;
                  }
                  | ByServer ↦ λ f. record { taken = f.taken; done = f.done; seen = f.seen; settled = f.settled }
                  | ByShutter ↦ λ f. record { count = f.count }
                ])
                (λ a. elim a as (λ a. (u : View M S Q A) → same a ByOwner ≡ false → Fits a s.homes w u → Fits a hs (collecting w) u) [
                  | ByOwner ↦ λ u e f. let z : true ≡ false = e in cc
                  | ByServer ↦ λ u e f. record { taken = f.taken; done = f.done; seen = f.seen; settled = f.settled }
                  | ByShutter ↦ λ u e f. record { count = f.count }
                ]);
            shut_by = step_shut_by s.views id v (collected_view v x log) w.shut at (λ o. o) (λ o. o) (λ e. e) (λ e. e) (λ e. e) h.shut_by;
          },
        )

module _ {M S Q A : Type 0} (next : M → S → Q → S) (reply : M → S → Q → A) (k : Key M S Q A) where
  -- a load of the done word
  pub collects_step : (c id : ℕ) (v : View M S Q A) (held : List (ℕ × Cell M S Q A)) → v.owns ≡ true → v.owner.ready ≡ true
      → Allows (HasLog next reply k) c id (v, held) 16 (λ n. n) (collected next reply (step c 16 0 0 none) (v, held))
  collects_step c id v held owns ready s all len at small =
      let w : WorldState M S Q A = world next reply k s all in
      let h : Shows next reply s w = all.shows in
      let x : ℕ = slice_index s.words 16 in
      let f = (h.seats ByOwner id v at owns).2 in
      let P : Bool → Type 0 = λ b. (v' : View M S Q A) × (a : Act (Cell M S Q A)) × Valid s.homes held a × HasLog next reply k (stepped s 16 x id held v' a) × is_collected next reply b c x (v, held) (v', carried_after held a) in
      let by : (b : Bool) → nat_lt v.owner.got x ≡ b → P b = elim [
        | true ↦ λ e.
            let lt : v.owner.got < x = ltb-true _ _ e in
            let dn = h.done in let gt = f.got in let bg = h.lawful.begun in let t = h.lawful.sent in
            let q = there w.accepted w.collected (omega arith) in
            let a = there w.answers w.collected (omega arith) in
            let log : List (Entry M S Q A) = log_with next reply k s all ByOwner Collect (Given v.owner.got) in
            let r = collect_one next reply s w h id v at owns ready x refl log held q.0 a.0 lt q.1 a.1 in
            let told = collect_tells next reply s w h id v at owns ready x refl q.0 a.0 q.1 a.1 in
            let z : w.collected < length w.answers = omega arith in
            let does = after_collect next reply w true (lt-ltb w.collected (length w.answers) z) in
            let kept = logged next reply k s all _ _ id v (collected_view v x log) ByOwner Collect (Given v.owner.got) (collecting next reply w) at owns
            (λ a. elim a as (λ a. role a (collected_view v x log) ≡ role a v) [ ByOwner ↦ refl | ByServer ↦ refl | ByShutter ↦ refl ])
            (elim [ ByOwner ↦ refl | ByServer ↦ refl | ByShutter ↦ refl ]) refl (sym does.0) (ap Given gt ∙ sym does.1) r.1 in (
              collected_view v x log,
              takes (v.owner.got % length s.homes) (Answered q.0 a.0),
              r.0,
              kept,
              (
                q.0,
                a.0,
                told,
                rw len refl,
                makes next reply k s all c id v (collected_view v x log) ByOwner Collect (Given v.owner.got) len at owns
                    (ap Given gt ∙ sym does.1) refl,
              ),
            )
        | false ↦ λ e.
            let le : x ≤ v.owner.got = ltb-false _ _ e in
            let dn = h.done in let gt = f.got in
            let z : length w.answers ≤ w.collected = omega arith in
            let does = after_collect next reply w false (le-ltb w.collected (length w.answers) z) in
            let log : List (Entry M S Q A) = log_with next reply k s all ByOwner Collect Nothing in
            let kept = logged next reply k s all _ _ id v (uncollected_view v x log) ByOwner Collect Nothing w at owns
            (λ a. elim a as (λ a. role a (uncollected_view v x log) ≡ role a v) [ ByOwner ↦ refl | ByServer ↦ refl | ByShutter ↦ refl ])
            (elim [ ByOwner ↦ refl | ByServer ↦ refl | ByShutter ↦ refl ]) refl (sym does.0) (sym does.1) (collect_none next reply s w h id v at owns ready x refl log held le) in
            (uncollected_view v x log, keeps, tt, kept, (refl, makes next reply k s all c id v (uncollected_view v x log) ByOwner Collect Nothing len at owns (sym does.1) refl))
      ] in
      by (nat_lt v.owner.got x) refl
