-- Each step keeps the rule.
use Rattle.std.proofs.Common.{◌≡◌, ◌≢◌, ◌==◌, inl, inr, eqb-true, false-eqb, set, ℕ, length, true, false, cond, List, [], ◌∷◌, ◌++◌, refl, sym, ap, ◌∙◌, subst, slice_set, slice_index, Some}
use Rattle.std.proofs.lemmas.List.{set-get_or}
use mathlib.Core.Option.{Option, some}
use lib.ListN.{get_elem?}
use Rattle.atomic_table.specs.Table.{State, keeps, stepped}
use Rattle.aa_lane.specs.WorldState.{WorldState, after, answer_to}
use Rattle.aa_lane.specs.Log.{same, may_make, GoesOn, leaves}
use Rattle.aa_lane.specs.declared.cells.Who.{Who}
use Rattle.aa_lane.specs.declared.cells.Entry.{Entry}
use Rattle.aa_lane.specs.Shows.{Shows, HasLog, Seats, Filled, ShutBy, Fits, role, log_of}
use Rattle.aa_lane.specs.Plays.{Makes}
use Rattle.aa_lane.specs.declared.event.Event.{Event}
use Rattle.aa_lane.specs.declared.event.Reply.{Reply}
use Rattle.aa_lane.specs.declared.cells.Cell.{Cell}
use Rattle.aa_lane.specs.declared.cells.View.{View}
use Rattle.aa_lane.specs.declared.cells.Key.{Key}
use Rattle.aa_lane.proofs.Rows.{each_set, at_here, split_eq, same_terms}
use Rattle.atomic_table.proofs.Lists.{set_else}
use Rattle.aa_lane.proofs.Logs.{same_eq, leaves_snoc, is_log_snoc, goes_itself, goes_further, leaves_terms}

module _ {M S Q A : Type 0} where
  -- no role is lost
  pub keep_filled : (views : List (View M S Q A)) (seat : Who → ℕ) (id : ℕ) (v v' : View M S Q A) → Filled views seat → get_elem? views id ≡ some v
      → ((a : Who) → role a v' ≡ role a v) → Filled (slice_set views id v') seat
  keep_filled views seat id v v' old at roles a =
      let f = old a in
      elim (split_eq (seat a == id)) [
        | inl e ↦ let is : seat a ≡ id = eqb-true _ _ e in
            let same_view : v ≡ f.0 = let z : some v ≡ some f.0 = sym at ∙ ap (get_elem? views) (sym is) ∙ f.1 in cc in
            (v', subst (λ i. get_elem? (set views id v') i ≡ some v') (sym is) (at_here views id v v' at), roles a ∙ ap (role a) same_view ∙ f.2)
        | inr e ↦ let ne : seat a ≢ id = false-eqb _ _ (sym e) in
            (f.0, set_else views id (seat a) v' ne ∙ f.1, f.2)
      ]

  -- the seat that steps has a role that no other seat has
  pub keep_seats : (views : List (View M S Q A)) (seat : Who → ℕ) (hs hs' : List (Option (Cell M S Q A))) (w w' : WorldState M S Q A) (who : Who) (id : ℕ) (v v' : View M S Q A)
      → Seats views seat hs w → get_elem? views id ≡ some v → role who v ≡ true → ((a : Who) → role a v' ≡ role a v)
      → v'.terms ≡ v.terms → w'.machine ≡ w.machine → w'.start ≡ w.start
      → ((a : Who) → Fits a hs w v → Fits a hs' w' v') → ((a : Who) (u : View M S Q A) → same a who ≡ false → Fits a hs w u → Fits a hs' w' u)
      → Seats (slice_set views id v') seat hs' w'
  keep_seats views seat hs hs' w w' who id v v' old at is roles terms m t here others a =
      let at_terms : Some (w.machine, w.start) ≡ Some (w'.machine, w'.start) = rw (m, t) refl in
      let R : ℕ → View M S Q A → Type 0 = λ j u. role a u ≡ true → (j ≡ seat a) × (u.terms ≡ Some (w'.machine, w'.start)) × Fits a hs' w' u in
      each_set R views id v'
      (λ r. let f = old a id v at (sym (roles a) ∙ r) in (f.0, terms ∙ f.1 ∙ at_terms, here a f.2))
      (λ j u ne there r. let f = old a j u there r in (
        f.0,
        f.1 ∙ at_terms,
        elim (same a who) as (λ b. same a who ≡ b → Fits a hs' w' u) [
          | true ↦ λ e. absurd (ne (f.0 ∙ ap seat (same_eq a who e) ∙ sym (old who id v at is).0))
          | false ↦ λ e. others a u e f.2
        ] refl,
      ))

module _ {M S Q A : Type 0} (next : M → S → Q → S) (reply : M → S → Q → A) where
  -- a step at which the world stays, as does every slot and word, and the seat knows something more
  pub stays : (s : State (Cell M S Q A) (View M S Q A)) (w : WorldState M S Q A) (h : Shows next reply s w) (i x id : ℕ) (held : List (ℕ × Cell M S Q A)) (who : Who) (v v' : View M S Q A)
      → x ≡ slice_index s.words i → get_elem? s.views id ≡ some v → role who v ≡ true → ((a : Who) → role a v' ≡ role a v) → v'.terms ≡ v.terms
      → ShutBy (slice_set s.views id v') w.shut
      → ((a : Who) → Fits a s.homes w v → Fits a s.homes w v')
      → Shows next reply (stepped s i x id held v' keeps) w
  stays s w h i x id held who v v' is at may roles terms by here =
      let words : slice_set s.words i x ≡ s.words = rw is (set-get_or s.words i 0) in
      record {
        lawful = h.lawful;
        capacity = h.capacity;
        roomy = h.roomy;
        wide = rw words h.wide;
        gate = rw words h.gate;
        done = rw words h.done;
        waiting = h.waiting;
        answered = h.answered;
        in_hand = h.in_hand;
        seat = h.seat;
        filled = keep_filled s.views h.seat id v v' h.filled at roles;
        seats = keep_seats s.views h.seat s.homes s.homes w w who id v v' h.seats at may roles terms refl refl here (λ a u e f. f);
        shut_by = by;
      }

module _ {M S Q A : Type 0} (next : M → S → Q → S) (reply : M → S → Q → A) (k : Key M S Q A) where
  abbrev pub world : (s : State (Cell M S Q A) (View M S Q A)) → HasLog next reply k s → WorldState M S Q A
  world s h = leaves next reply k.machine.now k.start k.capacity h.log

  -- the log with one entry more
  abbrev pub log_with : (s : State (Cell M S Q A) (View M S Q A)) → HasLog next reply k s → Who → Event M S Q A → Reply M S Q A → List (Entry M S Q A)
  log_with s h who e r = h.log ++ record { who = who; event = e; reply = r } ∷ []

  -- a step that is an event of the world
  pub logged : (s : State (Cell M S Q A) (View M S Q A)) (h : HasLog next reply k s) (ws : List ℕ) (hs : List (Option (Cell M S Q A))) (id : ℕ) (v v' : View M S Q A) (who : Who) (e : Event M S Q A) (r : Reply M S Q A)
      (w' : WorldState M S Q A) → get_elem? s.views id ≡ some v → role who v ≡ true → ((a : Who) → role a v' ≡ role a v)
      → ((a : Who) → log_of a v' ≡ cond (same a who) (log_with s h who e r) (log_of a v)) → may_make who e ≡ true
      → w' ≡ after next reply (world s h) e → r ≡ answer_to next reply (world s h) e
      → Shows next reply record { words = ws; homes = hs; views = slice_set s.views id v' } w'
      → HasLog next reply k record { words = ws; homes = hs; views = slice_set s.views id v' }
  logged s h ws hs id v v' who e r w' at is roles logs may left told shows =
      let x : Entry M S Q A = record { who = who; event = e; reply = r } in
      let log : List (Entry M S Q A) = h.log ++ x ∷ [] in
      record {
        log = log;
        is = is_log_snoc next reply k.machine.now k.start k.capacity h.log x h.is may told;
        shows = subst (Shows next reply record { words = ws; homes = hs; views = slice_set s.views id v' }) (left ∙ sym (leaves_snoc next reply k.machine.now k.start k.capacity h.log x)) shows;
        seen = λ a. each_set (λ j u. role a u ≡ true → GoesOn a (log_of a u) log) s.views id v'
            (λ o. subst (λ (l : List (Entry M S Q A)). GoesOn a l log) (sym (logs a)) (elim (same a who) as (λ b. same a who ≡ b → GoesOn a (cond b log (log_of a v)) log) [
              | true ↦ λ _. goes_itself a log
              | false ↦ λ b. goes_further a (log_of a v) h.log x b (h.seen a id v at (sym (roles a) ∙ o))
            ] refl))
            (λ j u ne there o. elim (same a who) as (λ b. same a who ≡ b → GoesOn a (log_of a u) log) [
              | true ↦ λ b. absurd (ne ((h.shows.seats a j u there o).0 ∙ ap h.shows.seat (same_eq a who b) ∙ sym (h.shows.seats who id v at is).0))
              | false ↦ λ b. goes_further a (log_of a u) h.log x b (h.seen a j u there o)
            ] refl);
      }

  -- the seat that made the event knows so
  pub makes : (s : State (Cell M S Q A) (View M S Q A)) (h : HasLog next reply k s) (c id : ℕ) (v v' : View M S Q A) (who : Who) (e : Event M S Q A) (r : Reply M S Q A)
      → length s.homes ≡ c → get_elem? s.views id ≡ some v → role who v ≡ true → r ≡ answer_to next reply (world s h) e → log_of who v' ≡ log_with s h who e r
      → Makes next reply c v who e r v'
  makes s h c id v v' who e r len at is told logs m t terms =
      let kept = leaves_terms next reply k.machine.now k.start k.capacity h.log in
      let both = same_terms v.terms m (world s h).machine t (world s h).start terms (h.shows.seats who id v at is).1 in
      let machine : m ≡ k.machine.now = both.0 ∙ kept.0 in
      let start : t ≡ k.start = both.1 ∙ kept.1 in
      let capacity : c ≡ k.capacity = sym len ∙ sym h.shows.capacity ∙ kept.2 in
      rw (machine, start, capacity) record { log = h.log; is = h.is; goes_on = h.seen who id v at is; replies = told; seen = logs }
