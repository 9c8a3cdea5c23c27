-- The steps that shut the lane.
use Rattle.std.proofs.Common.{◌≡◌, ℕ, ◌+◌, ◌*◌, ◌/◌, Bool, true, false, is_some, List, length, refl, sym, ap, ◌∙◌, arith, slice_index, Some}
use Rattle.std.proofs.lemmas.List.{length-set, get_or-set_same, get_or-set_other}
use mathlib.Core.Option.{Option, some, none}
use lib.ListN.{get_elem?}
use Rattle.atomic_table.specs.Table.{State, Me, step, keeps, stepped, Allows}
use Rattle.aa_lane.specs.WorldState.{WorldState}
use Rattle.aa_lane.specs.declared.cells.Who.{Who}
use Rattle.aa_lane.specs.declared.cells.Who.TheVariants.{ByOwner, ByServer, ByShutter}
use Rattle.aa_lane.specs.Shows.{Shows, HasLog, Fits, role, bit}
use Rattle.aa_lane.specs.declared.event.Event.TheVariants.{Shut}
use Rattle.aa_lane.specs.declared.event.Reply.TheVariants.{Count}
use Rattle.aa_lane.specs.declared.cells.Cell.{Cell}
use Rattle.aa_lane.specs.declared.cells.Entry.{Entry}
use Rattle.aa_lane.specs.declared.cells.View.{View}
use Rattle.aa_lane.specs.declared.cells.Key.{Key}
use Rattle.aa_lane.proofs.ShutBy.{NotedBy, self_shut_by, step_shut_by}
use Rattle.aa_lane.proofs.Stays.{keep_filled, keep_seats, logged, makes, log_with, world}
use Rattle.std.proofs.Common.{◌^◌}
use Rattle.std.specs.Prelude.{bit_or}
use Rattle.std.proofs.lemmas.Nat.{or_shifted, or_block}
use Rattle.std.specs.Int.Bits.{or_zero_r}
use Rattle.aa_lane.specs.Plays.{shut_told, exited, shut_view, left_view}
use Rattle.aa_lane.proofs.Lawful.{shutting_lawful}

-- the gate with its last bit set
pub or_one : (a : ℕ) (b : Bool) → bit_or (2 * a + bit b) 1 ≡ 2 * a + 1
or_one a true = let e : 2 * a + 1 ≡ a * 2 ^ 1 + 1 = omega arith in let f : 1 ≡ 0 * 2 ^ 1 + 1 = omega arith in
    ap (λ x. bit_or x 1) e ∙ or_block 1 a 0 1 1 (omega arith) (omega arith) ∙ ap (λ x. x * 2 ^ 1 + 1) (or_zero_r a) ∙ omega arith
or_one a false = let e : 2 * a + 0 ≡ a * 2 ^ 1 = omega arith in ap (λ x. bit_or x 1) e ∙ or_shifted a 1 1 (omega arith) ∙ omega arith

module _ {M S Q A : Type 0} (next : M → S → Q → S) (reply : M → S → Q → A) where
  abbrev pub shutting : WorldState M S Q A → WorldState M S Q A
  shutting w = record w { shut = true }

  -- what fits a world fits it once it is shut
  pub shut_fits : (hs : List (Option (Cell M S Q A))) (w : WorldState M S Q A) (a : Who) (u : View M S Q A) → Fits a hs w u → Fits a hs (shutting w) u
  shut_fits hs w a u = elim a as (λ a. Fits a hs w u → Fits a hs (shutting w) u) [
    | ByOwner ↦ λ f. record { sent = f.sent; got = f.got; found = f.found; closed = λ _. refl; left = λ _. refl; free = f.free; fresh = f.fresh }
    | ByServer ↦ λ f. record { taken = f.taken; done = f.done; seen = f.seen; settled = λ e. (refl, (f.settled e).1) }
    | ByShutter ↦ λ f. record { count = λ c e. (refl, (f.count c e).1) }
  ]

  -- a seat sets the last bit of the gate: the world is shut, and stays as it is otherwise
  pub shut_one : (s : State (Cell M S Q A) (View M S Q A)) (w : WorldState M S Q A) (h : Shows next reply s w) (id : ℕ) (held : List (ℕ × Cell M S Q A)) (who : Who) (v v' : View M S Q A)
      → get_elem? s.views id ≡ some v → role who v ≡ true → ((a : Who) → role a v' ≡ role a v) → v'.terms ≡ v.terms → NotedBy who v'
      → (v.owner.left ≡ true → v'.owner.left ≡ true) → (is_some v.shutter.count ≡ true → is_some v'.shutter.count ≡ true) → (v'.owner.closed ≡ true → v.owner.closed ≡ true)
      → ((a : Who) → Fits a s.homes w v → Fits a s.homes (shutting w) v')
      → Shows next reply (stepped s 0 (bit_or (slice_index s.words 0) 1) id held v' keeps) (shutting w)
  shut_one s w h id held who v v' at is roles terms noted left count closed here =
      let x : ℕ = bit_or (slice_index s.words 0) 1 in
      let gate : x ≡ 2 * length w.accepted + 1 = ap (λ n. bit_or n 1) h.gate ∙ or_one (length w.accepted) w.shut in
      record {
        lawful = shutting_lawful next reply w h.lawful;
        capacity = h.capacity;
        roomy = h.roomy;
        wide = length-set s.words 0 x ∙ h.wide;
        gate = get_or-set_same s.words 0 x 0 (let u = h.wide in omega arith) ∙ gate;
        done = rw (get_or-set_other s.words 0 16 x 0 (λ e. omega arith)) h.done;
        waiting = h.waiting;
        answered = h.answered;
        in_hand = h.in_hand;
        seat = h.seat;
        filled = keep_filled s.views h.seat id v v' h.filled at roles;
        seats = keep_seats s.views h.seat s.homes s.homes w (shutting w) who id v v' h.seats at is roles terms refl refl here (λ a u _ f. shut_fits s.homes w a u f);
        shut_by = self_shut_by s.views h.seat s.homes w who id v v' h.seats at is noted w.shut (step_shut_by s.views id v v' w.shut at (λ o. sym (roles ByOwner) ∙ o) (λ o. sym (roles ByShutter) ∙ o) left count closed h.shut_by);
      }

  -- half the gate is the number of accepted requests
  pub half : (s : State (Cell M S Q A) (View M S Q A)) (w : WorldState M S Q A) → Shows next reply s w → slice_index s.words 0 / 2 ≡ length w.accepted
  half s w h = elim w.shut as (λ b. slice_index s.words 0 ≡ 2 * length w.accepted + bit b → slice_index s.words 0 / 2 ≡ length w.accepted) [ true ↦ λ e. omega arith | false ↦ λ e. omega arith ] h.gate

module _ {M S Q A : Type 0} (next : M → S → Q → S) (reply : M → S → Q → A) (k : Key M S Q A) where
  -- the shutter shuts
  pub shuts_step : (c id : ℕ) (m : Me (Cell M S Q A) (View M S Q A)) → m.0.shuts ≡ true → Allows (HasLog next reply k) c id m 0 (λ n. bit_or n 1) (shut_told next reply (step c 0 1 0 none) m)
  shuts_step c id m is s all len at small =
      let v : View M S Q A = m.0 in
      let w : WorldState M S Q A = world next reply k s all in
      let h : Shows next reply s w = all.shows in
      let n : ℕ = slice_index s.words 0 / 2 in
      let count : n ≡ length w.accepted = half next reply s w h in
      let log : List (Entry M S Q A) = log_with next reply k s all ByShutter Shut (Count n) in
      let v' : View M S Q A = shut_view v n log in
      let roles : (a : Who) → role a v' ≡ role a v = λ a. elim a as (λ a. role a (shut_view v n log) ≡ role a v) [ ByOwner ↦ refl | ByServer ↦ refl | ByShutter ↦ refl ] in
      let here : (a : Who) → Fits a s.homes w v → Fits a s.homes (shutting next reply w) v' = λ a. elim a as (λ a. Fits a s.homes w v → Fits a s.homes (shutting next reply w) (shut_view v n log)) [
        | ByOwner ↦ λ f. shut_fits next reply s.homes w ByOwner v f
        | ByServer ↦ λ f. shut_fits next reply s.homes w ByServer v f
        | ByShutter ↦ λ f. record { count = λ c e. (refl, let z : Some n ≡ Some c = e in let y : n ≡ c = cc in sym y ∙ count) }
      ] in
      let new = shut_one next reply s w h id m.1 ByShutter v v' at is roles refl refl (λ e. e) (λ _. refl) (λ e. e) here in
      let kept = logged next reply k s all _ _ id v v' ByShutter Shut (Count n) (shutting next reply w) at is roles (elim [ ByOwner ↦ refl | ByServer ↦ refl | ByShutter ↦ refl ]) refl refl (ap Count count) new in
      (v', keeps, tt, kept, (refl, λ c e. count ∙ sym ((h.seats ByShutter id v at is).2.count c e).1, makes next reply k s all c id v v' ByShutter Shut (Count n) len at is (ap Count count) refl))

  -- the owner leaves
  pub exits_step : (c id : ℕ) (m : Me (Cell M S Q A) (View M S Q A)) → m.0.owns ≡ true → Allows (HasLog next reply k) c id m 0 (λ n. bit_or n 1) (exited next reply (step c 0 1 0 none) m)
  exits_step c id m is s all len at small =
      let v : View M S Q A = m.0 in
      let w : WorldState M S Q A = world next reply k s all in
      let h : Shows next reply s w = all.shows in
      let log : List (Entry M S Q A) = log_with next reply k s all ByOwner Shut (Count (length v.owner.sent)) in
      let v' : View M S Q A = left_view v log in
      let roles : (a : Who) → role a v' ≡ role a v = λ a. elim a as (λ a. role a (left_view v log) ≡ role a v) [ ByOwner ↦ refl | ByServer ↦ refl | ByShutter ↦ refl ] in
      let here : (a : Who) → Fits a s.homes w v → Fits a s.homes (shutting next reply w) v' = λ a. elim a as (λ a. Fits a s.homes w v → Fits a s.homes (shutting next reply w) (left_view v log)) [
        | ByOwner ↦ λ f. record { sent = f.sent; got = f.got; found = f.found; closed = λ _. refl; left = λ _. refl; free = f.free; fresh = f.fresh }
        | ByServer ↦ λ f. shut_fits next reply s.homes w ByServer v f
        | ByShutter ↦ λ f. shut_fits next reply s.homes w ByShutter v f
      ] in
      let new = shut_one next reply s w h id m.1 ByOwner v v' at is roles refl refl (λ _. refl) (λ e. e) (λ e. e) here in
      let count : length v.owner.sent ≡ length w.accepted = ap length (h.seats ByOwner id v at is).2.sent in
      let kept = logged next reply k s all _ _ id v v' ByOwner Shut (Count (length v.owner.sent)) (shutting next reply w) at is roles (elim [ ByOwner ↦ refl | ByServer ↦ refl | ByShutter ↦ refl ]) refl refl (ap Count count) new in
      (v', keeps, tt, kept, (refl, makes next reply k s all c id v v' ByOwner Shut (Count (length v.owner.sent)) len at is (ap Count count) refl))
