-- The step that sends a request.
use Rattle.std.proofs.Common.{◌≡◌, ◌≢◌, ℕ, ◌+◌, ◌-◌, ◌*◌, ◌%◌, ◌<◌, ◌≤◌, ◌==◌, inl, inr, cond, Bool, true, false}
use Rattle.std.proofs.Common.{List, [], ◌∷◌, ◌++◌, length, set, refl, sym, ap, ◌∙◌, subst, arith, slice_index, length-append, eq-eqb, ne_eqb}
use Rattle.std.proofs.lemmas.List.{length-set, get_or-set_same, get_or-set_other, take-append-le}
use Rattle.std.proofs.lemmas.Option.{slice_get_within}
use mathlib.Core.Option.{Option, some, none}
use lib.ListN.{get_elem?}
use prog.Atomic.{either}
use Rattle.atomic_table.specs.Table.{State, Me, step, Act, keeps, gives, Valid, stepped, Allows, rest, carried_after}
use Rattle.atomic_table.proofs.Lists.{set_else, set_here, one_turn}
use Rattle.atomic_table.specs.Seated.{TableId}
use Rattle.aa_lane.specs.WorldState.{WorldState, after, answer_to}
use Rattle.aa_lane.specs.Log.{same}
use Rattle.aa_lane.specs.declared.cells.Who.TheVariants.{ByOwner, ByServer, ByShutter}
use Rattle.aa_lane.specs.Shows.{Shows, HasLog, Fits, OwnerFits, role}
use Rattle.aa_lane.specs.declared.event.SendFault.TheVariants.{Closed}
use Rattle.aa_lane.specs.declared.event.Event.TheVariants.{Send}
use Rattle.aa_lane.specs.declared.event.Reply.TheVariants.{Accepted, Unsent}
use Rattle.aa_lane.specs.declared.cells.Cell.{Cell}
use Rattle.aa_lane.specs.declared.cells.Cell.TheVariants.{Asked}
use Rattle.aa_lane.specs.declared.cells.Entry.{Entry}
use Rattle.aa_lane.specs.declared.cells.View.{View}
use Rattle.aa_lane.specs.declared.cells.Key.{Key}
use Rattle.aa_lane.proofs.Stays.{keep_filled, keep_seats, stays, logged, makes, log_with, world}
use Rattle.aa_lane.specs.Steps.{CanSend}
use Rattle.aa_lane.specs.Plays.{sent, is_sent, StillClosed, sent_view, unsent_view}
use Rattle.aa_lane.proofs.Lawful.{sending_lawful}
use Rattle.aa_lane.proofs.ShutBy.{step_shut_by, told_shut_by}
use Rattle.aa_lane.proofs.Rows.{snoc_cases}

module _ {M S Q A : Type 0} (next : M → S → Q → S) (reply : M → S → Q → A) where
  abbrev pub sending : WorldState M S Q A → Q → WorldState M S Q A
  sending w q = record w { accepted = w.accepted ++ q ∷ [] }

  pub after_send : (w : WorldState M S Q A) (q : Q) → length w.accepted ≢ 4611686018427387903 → (length w.accepted - w.collected) ≢ w.capacity → (b : Bool) → w.shut ≡ b
      → (after next reply w (Send q) ≡ cond b w (sending w q)) × (answer_to next reply w (Send q) ≡ cond b (Unsent Closed q) (Accepted (length w.accepted)))
  after_send w q spent full b e = (rw (ne_eqb _ _ spent, ne_eqb _ _ full, e) refl, rw (ne_eqb _ _ spent, ne_eqb _ _ full, e) refl)

  module _ (s : State (Cell M S Q A) (View M S Q A)) (w : WorldState M S Q A) (h : Shows next reply s w) (id : ℕ) (v : View M S Q A) (q : Q) (tail : List (ℕ × Cell M S Q A))
      (at : get_elem? s.views id ≡ some v) (owns : v.owns ≡ true) (ready : v.owner.ready ≡ true)
      (spent : length v.owner.sent ≢ 4611686018427387903) (gotten : v.owner.got ≤ length v.owner.sent) (room : length v.owner.sent < v.owner.got + length s.homes) where
    fits : OwnerFits s.homes w v.owner
    fits = (h.seats ByOwner id v at owns).2

    count : length w.accepted ≡ length v.owner.sent
    count = ap length (sym fits.sent)

    pub not_spent : length w.accepted ≢ 4611686018427387903
    not_spent e = spent (sym count ∙ e)

    pub not_full : (length w.accepted - w.collected) ≢ w.capacity
    not_full e = let g = fits.got in let n = count in let c = h.capacity in absurd (omega arith)

    -- the new slot is none that holds a request
    other_slot : (m : ℕ) → w.collected ≤ m → m < length w.accepted → m % length s.homes ≢ length v.owner.sent % length s.homes
    other_slot m low high e =
        let g = fits.got in let n = count in
        let is : m ≡ length v.owner.sent = one_turn m (length v.owner.sent) (length s.homes) (omega arith) (omega arith) e in
        omega arith

    pub sent_unshut : (log : List (Entry M S Q A)) → w.shut ≡ false → (x : ℕ) → x ≡ 2 * length v.owner.sent + 2
        → Shows next reply (stepped s 0 x id ((length v.owner.sent % length s.homes, Asked q) ∷ tail) (sent_view v q log) gives) (sending w q)
    sent_unshut log unshut x is =
        let n : length (w.accepted ++ q ∷ []) ≡ length w.accepted + 1 = length-append w.accepted (q ∷ []) in
        let b = h.lawful.begun in let t = h.lawful.sent in let g = h.lawful.gotten in
        let slot : ℕ = length v.owner.sent % length s.homes in
        let hs : List (Option (Cell M S Q A)) = set s.homes slot (some (Asked q)) in
        let homes : length hs ≡ length s.homes = length-set s.homes slot (some (Asked q)) in
        let lt : slot < length s.homes = let r = h.roomy in omega arith in
        record {
          lawful = sending_lawful next reply w q h.lawful not_spent not_full;
          capacity = h.capacity ∙ sym homes;
          roomy = rw homes h.roomy;
          wide = length-set s.words 0 x ∙ h.wide;
          gate = rw (get_or-set_same s.words 0 x 0 (let u = h.wide in omega arith), unshut) (let c = count in omega (arith, n));
          done = rw (get_or-set_other s.words 0 16 x 0 (λ e. omega arith)) h.done;
          waiting = λ m r low e. rw homes (elim (snoc_cases w.accepted q m r e) [
            | inl p ↦ set_else s.homes slot (m % length s.homes) (some (Asked q)) (other_slot m (omega arith) (slice_get_within w.accepted m r p)) ∙ h.waiting m r low p
            | inr p ↦ let c = count in
                let there : m ≡ length v.owner.sent = p.0 ∙ c in
                rw (there, ← p.1) (set_here s.homes slot (some (Asked q)) lt)
          ]);
          answered = λ m r a low e f.
              let in_answers : m < length w.answers = slice_get_within w.answers m a f in
              rw homes (elim (snoc_cases w.accepted q m r e) [
                | inl p ↦ set_else s.homes slot (m % length s.homes) (some (Asked q)) (other_slot m low (slice_get_within w.accepted m r p)) ∙ h.answered m r a low p f
                | inr p ↦ absurd (omega arith)
              ]);
          in_hand = λ m low high. rw homes (set_else s.homes slot (m % length s.homes) (some (Asked q)) (other_slot m (omega arith) (omega arith)) ∙ h.in_hand m low high);
          seat = h.seat;
          filled = keep_filled s.views h.seat id v (sent_view v q log) h.filled at (λ a. elim a as (λ a. role a (sent_view v q log) ≡ role a v) [ ByOwner ↦ refl | ByServer ↦ refl | ByShutter ↦ refl ]);
          seats = keep_seats s.views h.seat s.homes hs w (sending w q) ByOwner id v (sent_view v q log) h.seats at owns
              (λ a r. elim a as (λ a. role a (sent_view v q log) ≡ role a v) [ ByOwner ↦ refl | ByServer ↦ refl | ByShutter ↦ refl ] r) refl refl refl
              (λ a. elim a as (λ a. Fits a s.homes w v → Fits a hs (sending w q) (sent_view v q log)) [
                | ByOwner ↦ λ f. record {
                  sent = ap (λ l. l ++ q ∷ []) f.sent;
                  got = f.got;
                  found = f.found;
                  closed = f.closed;
                  left = f.left;
                  free = λ r i low high.
                      rw homes
                      (set_else s.homes slot (i % length s.homes) (some (Asked q))
                      (λ e. let c = count in let g = fits.got in let y : length v.owner.sent ≡ i = one_turn (length v.owner.sent) i (length s.homes)
                      (omega (arith, n)) (omega (arith, n)) (sym e) in omega (arith, n))
                      ∙ f.free r i (omega (arith, n)) high);
                  fresh = λ r. let z : true ≡ false = sym ready ∙ r in cc;
                }
                | ByServer ↦ λ f. record {
                  taken = f.taken ∙ sym (take-append-le w.taken w.accepted (q ∷ []) t);
                  done = f.done;
                  seen = let z = f.seen in omega (arith, n);
                  settled = λ e. let z : true ≡ false = sym (f.settled e).0 ∙ unshut in cc;
                }
                | ByShutter ↦ λ f. record { count = λ c e. let z : true ≡ false = sym (f.count c e).0 ∙ unshut in cc }
              ])
              (λ a. elim a as (λ a. (u : View M S Q A) → same a ByOwner ≡ false → Fits a s.homes w u → Fits a hs (sending w q) u) [
                | ByOwner ↦ λ u e f. let z : true ≡ false = e in cc
                | ByServer ↦ λ u e f. record {
                  taken = f.taken ∙ sym (take-append-le w.taken w.accepted (q ∷ []) t);
                  done = f.done;
                  seen = let z = f.seen in omega (arith, n);
                  settled = λ e. let z : true ≡ false = sym (f.settled e).0 ∙ unshut in cc;
                }
                | ByShutter ↦ λ u e f. record { count = λ c e. let z : true ≡ false = sym (f.count c e).0 ∙ unshut in cc }
              ]);
          shut_by = step_shut_by s.views id v (sent_view v q log) w.shut at (λ o. o) (λ o. o) (λ e. e) (λ e. e) (λ e. e) h.shut_by;
        }

    -- the owner hadn't left, so its shutter has shut
    pub sent_shut : (log : List (Entry M S Q A)) → w.shut ≡ true → v.owner.left ≡ false
        → Shows next reply (stepped s 0 (slice_index s.words 0) id ((length v.owner.sent % length s.homes, Asked q) ∷ tail) (unsent_view v log) keeps) w
    sent_shut log is stayed =
        stays next reply s w h 0 (slice_index s.words 0) id ((length v.owner.sent % length s.homes, Asked q) ∷ tail) ByOwner v (unsent_view v log) refl at owns
        (λ a. elim a as (λ a. role a (unsent_view v log) ≡ role a v) [ ByOwner ↦ refl | ByServer ↦ refl | ByShutter ↦ refl ]) refl
        (told_shut_by s.views h.seat s.homes w id v (unsent_view v log) h.seats at owns is (λ o. o) (λ e. e) stayed h.shut_by)
        (λ a. elim a as (λ a. Fits a s.homes w v → Fits a s.homes w (unsent_view v log)) [
          | ByOwner ↦ λ f. record { sent = f.sent; got = f.got; found = f.found; closed = λ _. is; left = f.left; free = f.free; fresh = f.fresh }
          | ByServer ↦ λ f. f
          | ByShutter ↦ λ f. f
        ])

module _ {M S Q A : Type 0} (next : M → S → Q → S) (reply : M → S → Q → A) (k : Key M S Q A) where
  -- a single try to accept a request
  pub sends : (c id n : ℕ) (v : View M S Q A) (q : Q) (tail : List (ℕ × Cell M S Q A)) → v.owns ≡ true → v.owner.left ≡ false → v.owner.ready ≡ true → n ≡ length v.owner.sent
      → n ≢ 4611686018427387903 → v.owner.got ≤ n → n < v.owner.got + c
      → Allows (HasLog next reply k) c id (v, (n % c, Asked q) ∷ tail) 0 (λ g. either (g == 2 * n) (2 * n + 2) g) (sent next reply (step c 0 (2 * n) (2 * n + 2) none) (v, (n % c, Asked q) ∷ tail))
  sends c id n v q tail owns stayed ready is spent gotten room s held len at small =
      let w : WorldState M S Q A = world next reply k s held in
      let h : Shows next reply s w = held.shows in
      let spent' : length v.owner.sent ≢ 4611686018427387903 = λ e. spent (is ∙ e) in
      let gotten' : v.owner.got ≤ length v.owner.sent = omega arith in
      let room' : length v.owner.sent < v.owner.got + length s.homes = omega arith in
      let g : ℕ = slice_index s.words 0 in
      let fit = (h.seats ByOwner id v at owns).2 in
      let count : length w.accepted ≡ n = ap length (sym fit.sent) ∙ sym is in
      let does = after_send next reply w q (not_spent next reply s w h id v q tail at owns ready spent' gotten' room') (not_full next reply s w h id v q tail at owns ready spent' gotten' room') in
      let P : ℕ → Bool → Type 0 = λ x b. (v' : View M S Q A) × (a : Act (Cell M S Q A)) × Valid s.homes ((n % c, Asked q) ∷ tail) a × HasLog next reply k (stepped s 0 x id ((n % c, Asked q) ∷ tail) v' a)
      × (is_sent next reply b c ((n % c, Asked q) ∷ tail) (v, (n % c, Asked q) ∷ tail) (v', carried_after ((n % c, Asked q) ∷ tail) a) × StillClosed v b) in
      let by_shut : (b : Bool) → w.shut ≡ b → P (either (g == 2 * n) (2 * n + 2) g) (g == 2 * n) = elim [
        | false ↦ λ e.
            let gate : g ≡ 2 * n = h.gate ∙ rw e (omega arith) in
            let d = does false e in
            let told : Accepted (length v.owner.sent) ≡ answer_to next reply w (Send q) = ap Accepted (sym is ∙ sym count) ∙ sym d.1 in
            let log : List (Entry M S Q A) = log_with next reply k s held ByOwner (Send q) (Accepted (length v.owner.sent)) in
            let new = sent_unshut next reply s w h id v q tail at owns ready spent' gotten' room' log e (2 * length v.owner.sent + 2) refl in
            let kept = logged next reply k s held _ _ id v (sent_view v q log) ByOwner (Send q) (Accepted (length v.owner.sent)) (sending next reply w q) at owns
            (λ a. elim a as (λ a. role a (sent_view v q log) ≡ role a v) [ ByOwner ↦ refl | ByServer ↦ refl | ByShutter ↦ refl ])
            (elim [ ByOwner ↦ refl | ByServer ↦ refl | ByShutter ↦ refl ]) refl (sym d.0) told new in
            rw (eq-eqb g (2 * n) gate) (
              sent_view v q log,
              gives,
              tt,
              rw (is, ← len) kept,
              (
                (refl, makes next reply k s held c id v (sent_view v q log) ByOwner (Send q) (Accepted (length v.owner.sent)) len at owns told refl),
                λ f. let z : true ≡ false = sym (fit.closed f) ∙ e in cc,
              ),
            )
        | true ↦ λ e.
            let gate : g ≡ 2 * n + 1 = h.gate ∙ rw e (omega arith) in
            let ne : g ≢ 2 * n = λ f. omega arith in
            let d = does true e in
            let log : List (Entry M S Q A) = log_with next reply k s held ByOwner (Send q) (Unsent Closed q) in
            let new : Shows next reply (stepped s 0 g id ((n % c, Asked q) ∷ tail) (unsent_view v log) keeps) w = sent_shut next reply s w h id v q tail at owns ready spent' gotten' room' log e stayed in
            let kept = logged next reply k s held _ _ id v (unsent_view v log) ByOwner (Send q) (Unsent Closed q) w at owns
            (λ a. elim a as (λ a. role a (unsent_view v log) ≡ role a v) [ ByOwner ↦ refl | ByServer ↦ refl | ByShutter ↦ refl ])
            (elim [ ByOwner ↦ refl | ByServer ↦ refl | ByShutter ↦ refl ]) refl (sym d.0) (sym d.1) new in
            rw (ne_eqb g (2 * n) ne) (unsent_view v log, keeps, tt, kept, ((refl, makes next reply k s held c id v (unsent_view v log) ByOwner (Send q) (Unsent Closed q) len at owns (sym d.1) refl), λ _. refl))
      ] in
      by_shut w.shut refl

  pub can_send : (z z' : TableId) (id n slot : ℕ) (m : Me (Cell M S Q A) (View M S Q A)) (q : Q) → CanSend z m n slot → z ≡ z'
      → Allows (HasLog next reply k) z'.slots id (m.0, (slot, Asked q) ∷ rest m.1) 0 (λ g. either (g == 2 * n) (2 * n + 2) g) (sent next reply (step z'.slots 0 (2 * n) (2 * n + 2) none) (m.0, (slot, Asked q) ∷ rest m.1))
  can_send z z' id n slot m q can same_table =
      let P : TableId → Type 0 = λ y. Allows (HasLog next reply k) y.slots id (m.0, (slot, Asked q) ∷ rest m.1) 0
      (λ g. either (g == 2 * n) (2 * n + 2) g) (sent next reply (step y.slots 0 (2 * n) (2 * n + 2) none) (m.0, (slot, Asked q) ∷ rest m.1)) in
      subst P same_table (rw can.slot_is (sends z.slots id n m.0 q (rest m.1) can.owns can.stays can.ready can.count (λ e. let s = can.spent in absurd (omega arith)) can.gotten can.room))

  -- a send that failed
  pub not_sent : (b : Bool) (slots k : ℕ) (q : Q) (xs : List (ℕ × Cell M S Q A)) (m m' : Me (Cell M S Q A) (View M S Q A)) → b ≡ false
      → is_sent next reply b slots ((k, Asked q) ∷ xs) m m' → m' ≡ (unsent_view m.0 m'.0.owner.log, m.1)
  not_sent true slots k q xs m m' e h = let z : true ≡ false = e in cc
  not_sent false slots k q xs m m' e h = h.0
