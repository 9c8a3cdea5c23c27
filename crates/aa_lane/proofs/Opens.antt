-- The making of a lane: its table, the load that takes the slots, the splits, and the joins at its end.
use Rattle.std.proofs.Common.{◌≡◌, ◌≢◌, ℕ, zero, suc, ◌+◌, ◌%◌, ◌<◌, ◌≤◌, ◌==◌, eqb-true, false-eqb, ◌⊎◌, inl, inr}
use Rattle.std.proofs.Common.{cond, is_some, Bool, true, false, List, [], ◌∷◌, ◌++◌, length, set, refl, sym, ap, ◌∙◌, subst, arith, slice_set}
use Rattle.std.proofs.Common.{slice_index, Some, replicate, map}
use Rattle.std.proofs.lemmas.List.{length-set, set-get_or}
use Rattle.std.proofs.lemmas.Option.{slice_get_within}
use mathlib.Core.Option.{Option, some, none}
use lib.ListN.{get_elem?}
use Rattle.atomic_table.specs.Table.{State, step, Valid, stepped, Allows, rest, carried_after, homes_after}
use Rattle.atomic_table.proofs.Lists.{set_else, set_here}
use Rattle.aa_lane.specs.WorldState.{WorldState, opening}
use Rattle.aa_lane.specs.Log.{same}
use Rattle.aa_lane.specs.declared.cells.Who.{Who}
use Rattle.aa_lane.specs.declared.cells.Who.TheVariants.{ByOwner, ByServer, ByShutter}
use Rattle.aa_lane.specs.Shows.{Shows, HasLog, Fits, OwnerFits, ServerFits, ShutterFits, role}
use Rattle.aa_lane.specs.declared.cells.Cell.{Cell}
use Rattle.aa_lane.specs.declared.cells.Cell.TheVariants.{Vacant}
use Rattle.aa_lane.specs.declared.cells.View.{View}
use Rattle.aa_lane.specs.declared.cells.Key.{Key}
use Rattle.aa_lane.proofs.Stays.{keep_filled, keep_seats, world}
use Rattle.std.proofs.Math.Nat.{mod-eq_of_lt, mod-lt}
use Rattle.atomic_table.specs.Table.{opening as table_opening, Splits, Joins}
use Rattle.aa_lane.specs.Log.{may_make, GoesOn}
use Rattle.aa_lane.specs.declared.cells.Entry.{Entry}
use Rattle.std.proofs.lemmas.List.Elements.{All-nil}
use Rattle.aa_lane.specs.Shows.{ShutBy, log_of, first_view, spent_view}
use Rattle.aa_lane.specs.declared.cells.OwnerNotes.{OwnerNotes}
use Rattle.aa_lane.specs.declared.cells.ServerNotes.{ServerNotes}
use Rattle.aa_lane.specs.declared.cells.ShutterNotes.{ShutterNotes}
use Rattle.aa_lane.specs.Ends.{vacant}
use Rattle.aa_lane.specs.Plays.{readied, ready_view, take_slots, without_server, only_server, with_server, without_shutter, only_shutter, with_shutter}
use Rattle.aa_lane.proofs.ShutBy.{OwnerFrom, ShutterFrom, keep_shut_by, step_shut_by}
use Rattle.aa_lane.proofs.Lawful.{opening_lawful}
use Rattle.aa_lane.proofs.Rows.{each_set, at_here, split_eq}
use Rattle.aa_lane.proofs.Logs.{same_eq, goes_itself}

module _ {X : Type 0} (x : X) where
  vacant_homes : (n i : ℕ) → i < n → get_elem? (map some (replicate n x)) i ≡ some (some x)
  vacant_homes zero i h = absurd (omega arith)
  vacant_homes (suc n) zero h = refl
  vacant_homes (suc n) (suc i) h = vacant_homes n i (omega arith)

  length_homes : (n : ℕ) → length (map some (replicate n x)) ≡ n
  length_homes zero = refl
  length_homes (suc n) = ap suc (length_homes n)

module _ {X : Type 0} where
  last_there : (l : List X) (a : X) → get_elem? (l ++ a ∷ []) (length l) ≡ some a
  last_there [] a = refl
  last_there (x ∷ xs) a = last_there xs a

  first_there : (l m : List X) (j : ℕ) (b : X) → get_elem? l j ≡ some b → get_elem? (l ++ m) j ≡ some b
  first_there [] m j b e = cc
  first_there (x ∷ xs) m zero b e = e
  first_there (x ∷ xs) m (suc j) b e = first_there xs m j b e

  at_end : (l : List X) (a b : X) (j : ℕ) → get_elem? (l ++ a ∷ []) j ≡ some b → (get_elem? l j ≡ some b) ⊎ ((j ≡ length l) × (a ≡ b))
  at_end [] a b zero e = inr (refl, cc)
  at_end [] a b (suc j) e = cc
  at_end (x ∷ xs) a b zero e = inl e
  at_end (x ∷ xs) a b (suc j) e = elim (at_end xs a b j e) [ inl h ↦ inl h | inr h ↦ inr (ap suc h.0, h.1) ]

module _ {M S Q A : Type 0} where
  -- n slots in a row, all empty
  abbrev plain : ℕ → ℕ → List (ℕ × Cell M S Q A)
  plain from zero = []
  plain from (suc n) = (from, Vacant) ∷ plain (suc from) n

  taken_valid : (n : ℕ) (hs : List (Option (Cell M S Q A))) (c : List (ℕ × Cell M S Q A)) → ((i : ℕ) → i < n → get_elem? hs i ≡ some (some Vacant)) → Valid hs c (take_slots n)
  taken_valid zero hs c all = tt
  taken_valid (suc n) hs c all = (all n (omega arith), taken_valid n (set hs n none) ((n, Vacant) ∷ c) (λ i h. set_else hs n i none (λ e. omega arith) ∙ all i (omega arith)))

  taken_length : (n : ℕ) (hs : List (Option (Cell M S Q A))) (c : List (ℕ × Cell M S Q A)) → length (homes_after hs c (take_slots n)) ≡ length hs
  taken_length zero hs c = refl
  taken_length (suc n) hs c = taken_length n (set hs n none) ((n, Vacant) ∷ c) ∙ length-set hs n none

  -- the slots behind them stay, and they are out
  taken_past : (n : ℕ) (hs : List (Option (Cell M S Q A))) (c : List (ℕ × Cell M S Q A)) (i : ℕ) → n ≤ i → get_elem? (homes_after hs c (take_slots n)) i ≡ get_elem? hs i
  taken_past zero hs c i h = refl
  taken_past (suc n) hs c i h = taken_past n (set hs n none) ((n, Vacant) ∷ c) i (omega arith) ∙ set_else hs n i none (λ e. omega arith)

  taken_gone : (n : ℕ) (hs : List (Option (Cell M S Q A))) (c : List (ℕ × Cell M S Q A)) (i : ℕ) → i < n → n ≤ length hs → get_elem? (homes_after hs c (take_slots n)) i ≡ some none
  taken_gone zero hs c i lt le = absurd (omega arith)
  taken_gone (suc n) hs c i lt le = elim (split_eq (i == n)) [
    | inl e ↦ let is : i ≡ n = eqb-true _ _ e in taken_past n (set hs n none) ((n, Vacant) ∷ c) i (omega arith) ∙ rw is (set_here hs n none (omega arith))
    | inr e ↦ let ne : i ≢ n = false-eqb _ _ (sym e) in let len = length-set hs n none in taken_gone n (set hs n none) ((n, Vacant) ∷ c) i (omega arith) (omega arith)
  ]

  taken_carried : (n m : ℕ) → carried_after (plain n m) (take_slots n) ≡ plain 0 (n + m)
  taken_carried zero m = ap (plain 0) (omega arith)
  taken_carried (suc n) m = taken_carried n (suc m) ∙ ap (plain 0) (omega arith)

  plain_vacant : (c from n : ℕ) → from + n ≤ c → plain from n ≡ vacant c from n
  plain_vacant c from zero h = refl
  plain_vacant c from (suc n) h =
      let r : from % c ≡ from = let lt : from < c = omega arith in mod-eq_of_lt lt in
      ap (λ l. (from, Vacant) ∷ l) (plain_vacant c (suc from) n (omega arith)) ∙ ap (λ i. (i, Vacant) ∷ vacant c (suc from) n) (sym r)

module _ {X : Type 0} where
  -- what holds of the one that is set, of each other and of the new one holds of all
  split_rows : (R : ℕ → X → Type 0) (xs : List X) (id : ℕ) (l r : X) → R id l → ((j : ℕ) (u : X) → j ≢ id → get_elem? xs j ≡ some u → R j u) → R (length (set xs id l)) r
      → (j : ℕ) (u : X) → get_elem? (set xs id l ++ r ∷ []) j ≡ some u → R j u
  split_rows R xs id l r here other new j u e =
      elim (at_end (set xs id l) r u j e) [ inl p ↦ each_set R xs id l here other j u p | inr p ↦ subst (λ i. R i u) (sym p.0) (subst (R (length (set xs id l))) p.1 new) ]

  -- what holds of the one that takes in another, of the spent one and of each other holds of all
  join_rows : (R : ℕ → X → Type 0) (xs : List X) (id other : ℕ) (b x : X) → R id b → R other x → ((j : ℕ) (u : X) → j ≢ id → j ≢ other → get_elem? xs j ≡ some u → R j u)
      → (j : ℕ) (u : X) → get_elem? (set (set xs id b) other x) j ≡ some u → R j u
  join_rows R xs id other b x here spent rest =
      each_set R (set xs id b) other x spent (λ j u ne at. each_set (λ i y. i ≢ other → R i y) xs id b (λ _. here) (λ i y nid at' not_other. rest i y nid not_other at') j u at ne)

module _ {M S Q A : Type 0} (next : M → S → Q → S) (reply : M → S → Q → A) where
  first_only : (j : ℕ) (v w : View M S Q A) → get_elem? (w ∷ []) j ≡ some v → (j ≡ 0) × (w ≡ v)
  first_only zero v w e = (refl, cc)
  first_only (suc j) v w e = cc

  -- the table as it is made shows the opening world
  pub opens_one : (k : Key M S Q A) → 0 < k.capacity → Shows next reply (table_opening (replicate 17 0) (replicate k.capacity Vacant) (first_view k)) (opening k.machine.now k.start k.capacity)
  opens_one k roomy =
      let n = length_homes {X = Cell M S Q A} Vacant k.capacity in
      let w : WorldState M S Q A = opening k.machine.now k.start k.capacity in
      let hs : List (Option (Cell M S Q A)) = map some (replicate k.capacity Vacant) in
      let fit : (a : Who) → Fits a hs w (first_view k) = λ a. elim a as (λ a. Fits a hs w (first_view k)) [
        | ByOwner ↦ record {
          sent = refl;
          got = refl;
          found = omega arith;
          closed = λ z. let y : false ≡ true = z in cc;
          left = λ z. let y : false ≡ true = z in cc;
          free = λ z. let y : false ≡ true = z in cc;
          fresh = λ r. (refl, λ i lt. vacant_homes {X = Cell M S Q A} Vacant k.capacity i (rw n at lt));
        }
        | ByServer ↦ record { taken = refl; done = refl; seen = omega arith; settled = λ z. let y : false ≡ true = z in cc }
        | ByShutter ↦ record { count = λ c z. cc }
      ] in
      record {
        lawful = opening_lawful next reply k.machine.now k.start k.capacity;
        capacity = sym n;
        roomy = rw n roomy;
        wide = refl;
        gate = refl;
        done = refl;
        waiting = λ m q low e. cc;
        answered = λ m q a low e f. cc;
        in_hand = λ m low high. absurd (omega arith);
        seat = λ _. 0;
        filled = λ a. (first_view k, refl, elim a as (λ a. role a (first_view k) ≡ true) [ ByOwner ↦ refl | ByServer ↦ refl | ByShutter ↦ refl ]);
        seats = λ a j v e o. let f = first_only j v (first_view k) e in let y = subst (λ (u : View M S Q A). (u.terms ≡ Some (k.machine.now, k.start)) × Fits a hs w u) f.1 (refl, fit a) in (f.0, y.0, y.1);
        shut_by = record {
          either = λ e. let z : false ≡ true = e in cc;
          closed = λ j i o u at owns at_u shuts told. let z : false ≡ true = subst (λ (o : View M S Q A). o.owner.closed ≡ true) (sym (first_only j o (first_view k) at).1) told in cc;
        };
      }

  -- the owner takes all slots, and the world stays
  pub readies_one : (s : State (Cell M S Q A) (View M S Q A)) (w : WorldState M S Q A) (h : Shows next reply s w) (id c : ℕ) (v : View M S Q A)
      → get_elem? s.views id ≡ some v → v.owns ≡ true → v.owner.ready ≡ false → length s.homes ≡ c
      → Valid s.homes [] (take_slots c) × Shows next reply (stepped s 0 (slice_index s.words 0) id [] (ready_view v) (take_slots c)) w
  readies_one s w h id c v at owns ready len =
      let v' : View M S Q A = ready_view v in
      let fresh = (h.seats ByOwner id v at owns).2.fresh ready in
      let hs : List (Option (Cell M S Q A)) = homes_after s.homes [] (take_slots c) in
      let homes : length hs ≡ length s.homes = taken_length c s.homes [] in
      let words : slice_set s.words 0 (slice_index s.words 0) ≡ s.words = set-get_or s.words 0 0 in (
        taken_valid c s.homes [] (λ i lt. fresh.1 i (omega arith)),
        record {
          lawful = h.lawful;
          capacity = h.capacity ∙ sym homes;
          roomy = rw homes h.roomy;
          wide = rw words h.wide;
          gate = rw words h.gate;
          done = rw words h.done;
          waiting = λ m q low e. let z = slice_get_within w.accepted m q e in let y = fresh.0 in absurd (omega arith);
          answered = λ m q a low e g. let z = slice_get_within w.accepted m q e in let y = fresh.0 in absurd (omega arith);
          in_hand = λ m low high. let z = h.lawful.sent in let y = fresh.0 in absurd (omega arith);
          seat = h.seat;
          filled = keep_filled s.views h.seat id v v' h.filled at (λ a. elim a as (λ a. role a (ready_view v) ≡ role a v) [ ByOwner ↦ refl | ByServer ↦ refl | ByShutter ↦ refl ]);
          seats = keep_seats s.views h.seat s.homes hs w w ByOwner id v v' h.seats at owns
              (λ a. elim a as (λ a. role a (ready_view v) ≡ role a v) [ ByOwner ↦ refl | ByServer ↦ refl | ByShutter ↦ refl ]) refl refl refl
              (λ a. elim a as (λ a. Fits a s.homes w v → Fits a hs w (ready_view v)) [
                | ByOwner ↦ λ f. record {
                  sent = f.sent;
                  got = f.got;
                  found = f.found;
                  closed = f.closed;
                  left = f.left;
                  free = λ _ i low high. taken_gone c s.homes [] (i % length hs)
                      (let b = mod-lt i (let r = h.roomy in let y : 0 < length hs = omega arith in y) in omega arith) (omega arith);
                  fresh = λ r. let z : true ≡ false = r in cc;
                }
                | ByServer ↦ λ f. f
                | ByShutter ↦ λ f. f
              ])
              (λ a. elim a as (λ a. (u : View M S Q A) → same a ByOwner ≡ false → Fits a s.homes w u → Fits a hs w u) [
                | ByOwner ↦ λ u e f. let z : true ≡ false = e in cc
                | ByServer ↦ λ u e f. f
                | ByShutter ↦ λ u e f. f
              ]);
          shut_by = step_shut_by s.views id v v' w.shut at (λ o. o) (λ o. o) (λ e. e) (λ e. e) (λ e. e) h.shut_by;
        },
      )

  -- the seat with the view l keeps all roles of v but one, and the new seat with the view r has that one
  record Parts (who : Who) (v l r : View M S Q A) : Type 0 where
    is : role who v ≡ true
    keeps : (a : Who) → same a who ≡ false → role a v ≡ true → role a l ≡ true
    has : role who r ≡ true
    lefts : (a : Who) → role a l ≡ true → (role a v ≡ true) × (same a who ≡ false)
    rights : (a : Who) → role a r ≡ true → same a who ≡ true
    left_terms : l.terms ≡ v.terms
    right_terms : r.terms ≡ v.terms
    left_notes : (l.owner ≡ v.owner) × (l.server ≡ v.server) × (l.shutter ≡ v.shutter)
    right_notes : (r.owner ≡ v.owner) × (r.server ≡ v.server) × (r.shutter ≡ v.shutter)

  fits_same : (hs : List (Option (Cell M S Q A))) (w : WorldState M S Q A) (v l : View M S Q A) → (l.owner ≡ v.owner) × (l.server ≡ v.server) × (l.shutter ≡ v.shutter) → (a : Who) → Fits a hs w v → Fits a hs w l
  fits_same hs w v l e ByOwner f = subst (OwnerFits hs w) (sym e.0) f
  fits_same hs w v l e ByServer f = subst (ServerFits w) (sym e.1) f
  fits_same hs w v l e ByShutter f = subst (ShutterFits w) (sym e.2) f

  log_same : (v l : View M S Q A) → (l.owner ≡ v.owner) × (l.server ≡ v.server) × (l.shutter ≡ v.shutter) → (a : Who) → log_of a v ≡ log_of a l
  log_same v l e ByOwner = ap (λ (n : OwnerNotes M S Q A). n.log) (sym e.0)
  log_same v l e ByServer = ap (λ (n : ServerNotes M S Q A). n.log) (sym e.1)
  log_same v l e ByShutter = ap (λ (n : ShutterNotes M S Q A). n.log) (sym e.2)

  whose : (who : Who) (v l r : View M S Q A) → Parts who v l r → (a : Who) → role a r ≡ true → role a v ≡ true
  whose who v l r p a o = subst (λ b. role b v ≡ true) (sym (same_eq a who (p.rights a o))) p.is

  split_shut_by : (views : List (View M S Q A)) (b : Bool) (who : Who) (id : ℕ) (v l r : View M S Q A) → Parts who v l r → get_elem? views id ≡ some v → ShutBy views b → ShutBy (set views id l ++ r ∷ []) b
  split_shut_by views b who id v l r p at =
      keep_shut_by views (set views id l ++ r ∷ []) b
      (split_rows (λ _ o. OwnerFrom views o) views id l r
      (λ o. (id, v, at, (p.lefts ByOwner o).0, λ e. ap (λ (n : OwnerNotes M S Q A). n.left) p.left_notes.0 ∙ e, λ e. ap (λ (n : OwnerNotes M S Q A). n.closed) (sym p.left_notes.0) ∙ e))
      (λ j x ne there o. (j, x, there, o, λ e. e, λ e. e))
      (λ o. (id, v, at, whose who v l r p ByOwner o, λ e. ap (λ (n : OwnerNotes M S Q A). n.left) p.right_notes.0 ∙ e, λ e. ap (λ (n : OwnerNotes M S Q A). n.closed) (sym p.right_notes.0) ∙ e)))
      (split_rows (λ _ u. ShutterFrom views u) views id l r
      (λ o. (id, v, at, (p.lefts ByShutter o).0, λ e. ap (λ (n : ShutterNotes M S Q A). is_some n.count) p.left_notes.2 ∙ e))
      (λ j x ne there o. (j, x, there, o, λ e. e))
      (λ o. (id, v, at, whose who v l r p ByShutter o, λ e. ap (λ (n : ShutterNotes M S Q A). is_some n.count) p.right_notes.2 ∙ e)))

  -- one role goes to a seat of its own, and the world stays
  split_one : (s : State (Cell M S Q A) (View M S Q A)) (w : WorldState M S Q A) (h : Shows next reply s w) (who : Who) (id : ℕ) (v l r : View M S Q A) → Parts who v l r → get_elem? s.views id ≡ some v
      → Shows next reply record { words = s.words; homes = s.homes; views = slice_set s.views id l ++ r ∷ [] } w
  split_one s w h who id v l r p at =
      let new : ℕ = length (set s.views id l) in
      let seat : Who → ℕ = λ a. cond (same a who) new (h.seat a) in
      let apart : (a : Who) (j : ℕ) (u : View M S Q A) → j ≢ id → get_elem? s.views j ≡ some u → role a u ≡ true → same a who ≡ false = λ a j u ne there o.
      elim (same a who) as (λ b. same a who ≡ b → same a who ≡ false) [
        | true ↦ λ e. absurd (ne ((h.seats a j u there o).0 ∙ ap h.seat (same_eq a who e) ∙ sym (h.seats who id v at p.is).0))
        | false ↦ λ e. e
      ] refl in
      record {
        lawful = h.lawful;
        capacity = h.capacity;
        roomy = h.roomy;
        wide = h.wide;
        gate = h.gate;
        done = h.done;
        waiting = h.waiting;
        answered = h.answered;
        in_hand = h.in_hand;
        seat = seat;
        filled = λ a. elim (same a who) as (λ b. same a who ≡ b → (x : View M S Q A) × (get_elem? (set s.views id l ++ r ∷ []) (cond b new (h.seat a)) ≡ some x) × (role a x ≡ true)) [
          | true ↦ λ e. (r, last_there (set s.views id l) r, subst (λ b. role b r ≡ true) (sym (same_eq a who e)) p.has)
          | false ↦ λ e. let f = h.filled a in
              elim (split_eq (h.seat a == id)) [
                | inl g ↦ let is : h.seat a ≡ id = eqb-true _ _ g in
                    let one : v ≡ f.0 = let z : some v ≡ some f.0 = sym at ∙ ap (get_elem? s.views) (sym is) ∙ f.1 in cc in
                    (l, first_there (set s.views id l) (r ∷ []) (h.seat a) l (rw is (at_here s.views id v l at)), p.keeps a e (ap (role a) one ∙ f.2))
                | inr g ↦ let ne : h.seat a ≢ id = false-eqb _ _ (sym g) in
                    (f.0, first_there (set s.views id l) (r ∷ []) (h.seat a) f.0 (set_else s.views id (h.seat a) l ne ∙ f.1), f.2)
              ]
        ] refl;
        seats = λ a. split_rows (λ j u. role a u ≡ true → (j ≡ seat a) × (u.terms ≡ Some (w.machine, w.start)) × Fits a s.homes w u) s.views id l r
            (λ o. let q = p.lefts a o in let f = h.seats a id v at q.0 in (f.0 ∙ sym (ap (λ b. cond b new (h.seat a)) q.1), p.left_terms ∙ f.1, fits_same s.homes w v l p.left_notes a f.2))
            (λ j u ne there o. let f = h.seats a j u there o in (f.0 ∙ sym (ap (λ b. cond b new (h.seat a)) (apart a j u ne there o)), f.1, f.2))
            (λ o. let f = h.seats a id v at (whose who v l r p a o) in (sym (ap (λ b. cond b new (h.seat a)) (p.rights a o)), p.right_terms ∙ f.1, fits_same s.homes w v r p.right_notes a f.2));
        shut_by = split_shut_by s.views w.shut who id v l r p at h.shut_by;
      }

  server_parts : (v : View M S Q A) → v.serves ≡ true → Parts ByServer v (without_server v) (only_server v)
  server_parts v is = record {
    is = is;
    keeps = λ a. elim a as (λ a. same a ByServer ≡ false → role a v ≡ true → role a (without_server v) ≡ true) [ ByOwner ↦ λ e o. o | ByServer ↦ λ e o. let z : true ≡ false = e in cc | ByShutter ↦ λ e o. o ];
    has = is;
    lefts = λ a. elim a as
        (λ a. role a (without_server v) ≡ true
        → (role a v ≡ true) × (same a ByServer ≡ false)) [
          | ByOwner ↦ λ o.
              (o, refl)
          | ByServer ↦ λ o. let z : false ≡ true = o in cc
          | ByShutter ↦ λ o. (o, refl)
        ];
    rights = λ a. elim a as (λ a. role a (only_server v) ≡ true → same a ByServer ≡ true) [ ByOwner ↦ λ o. let z : false ≡ true = o in cc | ByServer ↦ λ o. refl | ByShutter ↦ λ o. let z : false ≡ true = o in cc ];
    left_terms = refl;
    right_terms = refl;
    left_notes = (refl, refl, refl);
    right_notes = (refl, refl, refl);
  }

  shutter_parts : (v : View M S Q A) → v.shuts ≡ true → Parts ByShutter v (without_shutter v) (only_shutter v)
  shutter_parts v is = record {
    is = is;
    keeps = λ a. elim a as (λ a. same a ByShutter ≡ false → role a v ≡ true → role a (without_shutter v) ≡ true) [ ByOwner ↦ λ e o. o | ByServer ↦ λ e o. o | ByShutter ↦ λ e o. let z : true ≡ false = e in cc ];
    has = is;
    lefts = λ a. elim a as
        (λ a. role a (without_shutter v) ≡ true
        → (role a v ≡ true) × (same a ByShutter ≡ false)) [
          | ByOwner ↦ λ o. (o, refl)
          | ByServer ↦ λ o.
              (o, refl)
          | ByShutter ↦ λ o. let z : false ≡ true = o in cc
        ];
    rights = λ a. elim a as (λ a. role a (only_shutter v) ≡ true → same a ByShutter ≡ true) [ ByOwner ↦ λ o. let z : false ≡ true = o in cc | ByServer ↦ λ o. let z : false ≡ true = o in cc | ByShutter ↦ λ o. refl ];
    left_terms = refl;
    right_terms = refl;
    left_notes = (refl, refl, refl);
    right_notes = (refl, refl, refl);
  }

  pub splits_server_one : (s : State (Cell M S Q A) (View M S Q A)) (w : WorldState M S Q A) → Shows next reply s w → (id : ℕ) (v : View M S Q A) → get_elem? s.views id ≡ some v → v.serves ≡ true
      → Shows next reply record { words = s.words; homes = s.homes; views = slice_set s.views id (without_server v) ++ only_server v ∷ [] } w
  splits_server_one s w h id v at is = split_one s w h ByServer id v (without_server v) (only_server v) (server_parts v is) at

  pub splits_shutter_one : (s : State (Cell M S Q A) (View M S Q A)) (w : WorldState M S Q A) → Shows next reply s w → (id : ℕ) (v : View M S Q A) → get_elem? s.views id ≡ some v → v.shuts ≡ true
      → Shows next reply record { words = s.words; homes = s.homes; views = slice_set s.views id (without_shutter v) ++ only_shutter v ∷ [] } w
  splits_shutter_one s w h id v at is = split_one s w h ByShutter id v (without_shutter v) (only_shutter v) (shutter_parts v is) at

  spent_has_none : (a : Who) → role a (spent_view {M = M} {S = S} {Q = Q} {A = A}) ≡ true → false ≡ true
  spent_has_none ByOwner o = o
  spent_has_none ByServer o = o
  spent_has_none ByShutter o = o

  -- the seat with the view b is the owner's seat v, and has one role more, in which it knows what u knew
  record Whole (who : Who) (v u b : View M S Q A) : Type 0 where
    owns : v.owns ≡ true
    is : role who u ≡ true
    roles : (a : Who) → same a who ≡ false → role a b ≡ true → role a v ≡ true
    keeps : (a : Who) → same a who ≡ false → role a v ≡ true → role a b ≡ true
    has : role who b ≡ true
    alone : (a : Who) → same a who ≡ false → role a u ≡ false
    terms : b.terms ≡ v.terms
    fits : (hs : List (Option (Cell M S Q A))) (w : WorldState M S Q A) (a : Who) → cond (same a who) (Fits a hs w u) (Fits a hs w v) → Fits a hs w b
    logs : (a : Who) → cond (same a who) (log_of a u) (log_of a v) ≡ log_of a b
    owner_from : (views : List (View M S Q A)) (id other : ℕ) → get_elem? views id ≡ some v → get_elem? views other ≡ some u → OwnerFrom views b
    shutter_from : (views : List (View M S Q A)) (id other : ℕ) → get_elem? views id ≡ some v → get_elem? views other ≡ some u → ShutterFrom views b

  of_other : (who : Who) (v u b : View M S Q A) → Whole who v u b → (a : Who) → same a who ≡ true → role a u ≡ true
  of_other who v u b p a e = subst (λ c. role c u ≡ true) (sym (same_eq a who e)) p.is

  -- a seat takes one role in, and the world stays
  join_one : (s : State (Cell M S Q A) (View M S Q A)) (w : WorldState M S Q A) (h : Shows next reply s w) (who : Who) (id : ℕ) (v : View M S Q A) (other : ℕ) (u b : View M S Q A) → Whole who v u b
      → get_elem? s.views id ≡ some v → get_elem? s.views other ≡ some u → other ≢ id
      → Shows next reply record { words = s.words; homes = s.homes; views = slice_set (slice_set s.views id b) other spent_view } w
  join_one s w h who id v other u b p at there apart =
      let seat : Who → ℕ = λ a. cond (same a who) id (h.seat a) in
      let known_terms : b.terms ≡ Some (w.machine, w.start) = p.terms ∙ (h.seats ByOwner id v at p.owns).1 in
      let not_who : (a : Who) (j : ℕ) (x : View M S Q A) → j ≢ other → get_elem? s.views j ≡ some x → role a x ≡ true → same a who ≡ false = λ a j x ne at_j o.
      elim (same a who) as (λ b. same a who ≡ b → same a who ≡ false) [
        | true ↦ λ e. absurd (ne ((h.seats a j x at_j o).0 ∙ ap h.seat (same_eq a who e) ∙ sym (h.seats who other u there p.is).0))
        | false ↦ λ e. e
      ] refl in
      record {
        lawful = h.lawful;
        capacity = h.capacity;
        roomy = h.roomy;
        wide = h.wide;
        gate = h.gate;
        done = h.done;
        waiting = h.waiting;
        answered = h.answered;
        in_hand = h.in_hand;
        seat = seat;
        filled = λ a. elim (same a who) as (λ c. same a who ≡ c → (x : View M S Q A) × (get_elem? (set (set s.views id b) other spent_view) (cond c id (h.seat a)) ≡ some x) × (role a x ≡ true)) [
          | true ↦ λ e. (b, set_else (set s.views id b) other id spent_view (λ g. apart (sym g)) ∙ at_here s.views id v b at, subst (λ c. role c b ≡ true) (sym (same_eq a who e)) p.has)
          | false ↦ λ e. let f = h.filled a in
              let not_other : h.seat a ≢ other = λ g.
              let one : u ≡ f.0 = let z : some u ≡ some f.0 = sym there ∙ ap (get_elem? s.views) (sym g) ∙ f.1 in cc in
              let z : true ≡ false = sym f.2 ∙ ap (role a) (sym one) ∙ p.alone a e in cc in
              elim (split_eq (h.seat a == id)) [
                | inl g ↦ let is : h.seat a ≡ id = eqb-true _ _ g in
                    let one : v ≡ f.0 = let z : some v ≡ some f.0 = sym at ∙ ap (get_elem? s.views) (sym is) ∙ f.1 in cc in
                    (b, set_else (set s.views id b) other (h.seat a) spent_view not_other ∙ rw is (at_here s.views id v b at), p.keeps a e (ap (role a) one ∙ f.2))
                | inr g ↦ let ne : h.seat a ≢ id = false-eqb _ _ (sym g) in
                    (f.0, set_else (set s.views id b) other (h.seat a) spent_view not_other ∙ set_else s.views id (h.seat a) b ne ∙ f.1, f.2)
              ]
        ] refl;
        seats = λ a. join_rows (λ j x. role a x ≡ true → (j ≡ seat a) × (x.terms ≡ Some (w.machine, w.start)) × Fits a s.homes w x) s.views id other b spent_view
            (λ o. elim (same a who) as (λ c. same a who ≡ c → (id ≡ seat a) × (b.terms ≡ Some (w.machine, w.start)) × Fits a s.homes w b) [
              | true ↦ λ e. (sym (ap (λ c. cond c id (h.seat a)) e), known_terms, p.fits s.homes w a (rw e (h.seats a other u there (of_other who v u b p a e)).2))
              | false ↦ λ e. let f = h.seats a id v at (p.roles a e o) in (f.0 ∙ sym (ap (λ c. cond c id (h.seat a)) e), known_terms, p.fits s.homes w a (rw e f.2))
            ] refl)
            (λ o. let z : false ≡ true = spent_has_none a o in cc)
            (λ j x nid ne at_j o. let f = h.seats a j x at_j o in (f.0 ∙ sym (ap (λ c. cond c id (h.seat a)) (not_who a j x ne at_j o)), f.1, f.2));
        shut_by = keep_shut_by s.views (set (set s.views id b) other spent_view) w.shut
            (join_rows (λ _ o. OwnerFrom s.views o) s.views id other b spent_view (p.owner_from s.views id other at there)
            (λ o. let z : false ≡ true = spent_has_none ByOwner o in cc) (λ j x nid ne at_j o. (j, x, at_j, o, λ e. e, λ e. e)))
            (join_rows (λ _ o. ShutterFrom s.views o) s.views id other b spent_view (p.shutter_from s.views id other at there)
            (λ o. let z : false ≡ true = spent_has_none ByShutter o in cc) (λ j x nid ne at_j o. (j, x, at_j, o, λ e. e)))
            h.shut_by;
      }

  server_whole : (v u : View M S Q A) → v.owns ≡ true → u.serves ≡ true → (u.owns ≡ false) × (u.shuts ≡ false) → Whole ByServer v u (with_server v u)
  server_whole v u owns is alone = record {
    owns = owns;
    is = is;
    roles = λ a. elim a as (λ a. same a ByServer ≡ false → role a (with_server v u) ≡ true → role a v ≡ true) [ ByOwner ↦ λ e o. o | ByServer ↦ λ e o. let z : true ≡ false = e in cc | ByShutter ↦ λ e o. o ];
    keeps = λ a. elim a as (λ a. same a ByServer ≡ false → role a v ≡ true → role a (with_server v u) ≡ true) [ ByOwner ↦ λ e o. o | ByServer ↦ λ e o. refl | ByShutter ↦ λ e o. o ];
    has = refl;
    alone = λ a. elim a as (λ a. same a ByServer ≡ false → role a u ≡ false) [ ByOwner ↦ λ e. alone.0 | ByServer ↦ λ e. let z : true ≡ false = e in cc | ByShutter ↦ λ e. alone.1 ];
    terms = refl;
    fits = λ hs w a. elim a as (λ a. cond (same a ByServer) (Fits a hs w u) (Fits a hs w v) → Fits a hs w (with_server v u)) [ ByOwner ↦ λ f. f | ByServer ↦ λ f. f | ByShutter ↦ λ f. f ];
    logs = λ a. elim a as (λ a. cond (same a ByServer) (log_of a u) (log_of a v) ≡ log_of a (with_server v u)) [ ByOwner ↦ refl | ByServer ↦ refl | ByShutter ↦ refl ];
    owner_from = λ views id other at there o. (id, v, at, o, λ e. e, λ e. e);
    shutter_from = λ views id other at there o. (id, v, at, o, λ e. e);
  }

  shutter_whole : (v u : View M S Q A) → v.owns ≡ true → u.shuts ≡ true → (u.owns ≡ false) × (u.serves ≡ false) → Whole ByShutter v u (with_shutter v u)
  shutter_whole v u owns is alone = record {
    owns = owns;
    is = is;
    roles = λ a. elim a as (λ a. same a ByShutter ≡ false → role a (with_shutter v u) ≡ true → role a v ≡ true) [ ByOwner ↦ λ e o. o | ByServer ↦ λ e o. o | ByShutter ↦ λ e o. let z : true ≡ false = e in cc ];
    keeps = λ a. elim a as (λ a. same a ByShutter ≡ false → role a v ≡ true → role a (with_shutter v u) ≡ true) [ ByOwner ↦ λ e o. o | ByServer ↦ λ e o. o | ByShutter ↦ λ e o. refl ];
    has = refl;
    alone = λ a. elim a as (λ a. same a ByShutter ≡ false → role a u ≡ false) [ ByOwner ↦ λ e. alone.0 | ByServer ↦ λ e. alone.1 | ByShutter ↦ λ e. let z : true ≡ false = e in cc ];
    terms = refl;
    fits = λ hs w a. elim a as (λ a. cond (same a ByShutter) (Fits a hs w u) (Fits a hs w v) → Fits a hs w (with_shutter v u)) [ ByOwner ↦ λ f. f | ByServer ↦ λ f. f | ByShutter ↦ λ f. f ];
    logs = λ a. elim a as (λ a. cond (same a ByShutter) (log_of a u) (log_of a v) ≡ log_of a (with_shutter v u)) [ ByOwner ↦ refl | ByServer ↦ refl | ByShutter ↦ refl ];
    owner_from = λ views id other at there o. (id, v, at, o, λ e. e, λ e. e);
    shutter_from = λ views id other at there o. (other, u, there, is, λ e. e);
  }

  pub joins_server_one : (s : State (Cell M S Q A) (View M S Q A)) (w : WorldState M S Q A) → Shows next reply s w
      → (id : ℕ) (v : View M S Q A) (other : ℕ) (u : View M S Q A) → get_elem? s.views id ≡ some v → get_elem? s.views other ≡ some u
      → other ≢ id
      → v.owns ≡ true → u.serves ≡ true → (u.owns ≡ false) × (u.shuts ≡ false) → Shows next reply record { words = s.words; homes = s.homes; views = slice_set (slice_set s.views id (with_server v u)) other spent_view } w
  joins_server_one s w h id v other u at there apart owns is alone = join_one s w h ByServer id v other u (with_server v u) (server_whole v u owns is alone) at there apart

  pub joins_shutter_one : (s : State (Cell M S Q A) (View M S Q A)) (w : WorldState M S Q A) → Shows next reply s w
      → (id : ℕ) (v : View M S Q A) (other : ℕ) (u : View M S Q A) → get_elem? s.views id ≡ some v → get_elem? s.views other ≡ some u
      → other ≢ id
      → v.owns ≡ true → u.shuts ≡ true → (u.owns ≡ false) × (u.serves ≡ false) → Shows next reply record { words = s.words; homes = s.homes; views = slice_set (slice_set s.views id (with_shutter v u)) other spent_view } w
  joins_shutter_one s w h id v other u at there apart owns is alone = join_one s w h ByShutter id v other u (with_shutter v u) (shutter_whole v u owns is alone) at there apart

module _ {M S Q A : Type 0} (next : M → S → Q → S) (reply : M → S → Q → A) (k : Key M S Q A) where
  pub opens : 0 < k.capacity → HasLog next reply k (table_opening (replicate 17 0) (replicate k.capacity Vacant) (first_view k))
  opens roomy = record {
    log = [];
    is = record { told = refl; able = All-nil (λ (x : Entry M S Q A). may_make x.who x.event ≡ true) };
    shows = opens_one next reply k roomy;
    seen = λ a j v e o. let f = first_only next reply j v (first_view k) e in
        subst (λ (u : View M S Q A). GoesOn a (log_of a u) []) f.1
        (elim a as
        (λ a. GoesOn a
        (log_of a
        (first_view k)) []) [ ByOwner ↦ goes_itself ByOwner [] | ByServer ↦ goes_itself ByServer [] | ByShutter ↦ goes_itself ByShutter [] ]);
  }

  -- the load at which the owner takes all slots
  pub readies_step : (c id : ℕ) (v : View M S Q A) → v.owns ≡ true → v.owner.ready ≡ false → Allows (HasLog next reply k) c id (v, []) 0 (λ n. n) (readied (step c 0 0 0 none) (v, []))
  readies_step c id v owns ready s all len at small =
      let v' : View M S Q A = ready_view v in
      let new = readies_one next reply s (world next reply k s all) all.shows id c v at owns ready len in
      let roles : (a : Who) → role a v' ≡ role a v = λ a. elim a as (λ a. role a (ready_view v) ≡ role a v) [ ByOwner ↦ refl | ByServer ↦ refl | ByShutter ↦ refl ] in
      let logs : (a : Who) → log_of a v ≡ log_of a v' = λ a. elim a as (λ a. log_of a v ≡ log_of a (ready_view v)) [ ByOwner ↦ refl | ByServer ↦ refl | ByShutter ↦ refl ] in (
        v',
        take_slots c,
        new.0,
        record {
          log = all.log;
          is = all.is;
          shows = new.1;
          seen = λ a. each_set (λ j u. role a u ≡ true → GoesOn a (log_of a u) all.log) s.views id v'
              (λ o. subst (λ l. GoesOn a l all.log) (logs a) (all.seen a id v at (sym (roles a) ∙ o))) (λ j u _ there o. all.seen a j u there o);
        },
        ap (λ (l : List (ℕ × Cell M S Q A)). (v', l)) (taken_carried c 0 ∙ ap (plain 0) (omega arith) ∙ plain_vacant c 0 c (omega arith)),
      )

  split_off : (who : Who) (id : ℕ) (v l r : View M S Q A) → Parts next reply who v l r → Splits (HasLog next reply k) id v l r
  split_off who id v l r p s all at = record {
    log = all.log;
    is = all.is;
    shows = split_one next reply s (world next reply k s all) all.shows who id v l r p at;
    seen = λ a. split_rows (λ j u. role a u ≡ true → GoesOn a (log_of a u) all.log) s.views id l r
        (λ o. subst (λ i. GoesOn a i all.log) (log_same next reply v l p.left_notes a) (all.seen a id v at (p.lefts a o).0))
        (λ j u ne there o. all.seen a j u there o)
        (λ o. subst (λ i. GoesOn a i all.log) (log_same next reply v r p.right_notes a) (all.seen a id v at (whose next reply who v l r p a o)));
  }

  pub splits_server : (id : ℕ) (v : View M S Q A) → v.serves ≡ true → Splits (HasLog next reply k) id v (without_server v) (only_server v)
  splits_server id v is = split_off ByServer id v (without_server v) (only_server v) (server_parts next reply v is)

  pub splits_shutter : (id : ℕ) (v : View M S Q A) → v.shuts ≡ true → Splits (HasLog next reply k) id v (without_shutter v) (only_shutter v)
  splits_shutter id v is = split_off ByShutter id v (without_shutter v) (only_shutter v) (shutter_parts next reply v is)

  join_in : (who : Who) (id : ℕ) (v : View M S Q A) (other : ℕ) (u b : View M S Q A) → Whole next reply who v u b → Joins (HasLog next reply k) id v other u b spent_view
  join_in who id v other u b p s all at apart at_other =
      let there : get_elem? s.views other ≡ some u = sym (set_else s.views id other b apart) ∙ at_other in
      record {
        log = all.log;
        is = all.is;
        shows = join_one next reply s (world next reply k s all) all.shows who id v other u b p at there apart;
        seen = λ a. join_rows (λ j x. role a x ≡ true → GoesOn a (log_of a x) all.log) s.views id other b spent_view
            (λ o. subst (λ i. GoesOn a i all.log) (p.logs a) (elim (same a who) as (λ c. same a who ≡ c → GoesOn a (cond c (log_of a u) (log_of a v)) all.log) [
              | true ↦ λ e. all.seen a other u there (of_other next reply who v u b p a e)
              | false ↦ λ e. all.seen a id v at (p.roles a e o)
            ] refl))
            (λ o. let z : false ≡ true = spent_has_none next reply a o in cc)
            (λ j x nid ne at_j o. all.seen a j x at_j o);
      }

  pub joins_server : (id : ℕ) (v : View M S Q A) (other : ℕ) (u : View M S Q A) → v.owns ≡ true → u.serves ≡ true
      → (u.owns ≡ false) × (u.shuts ≡ false) → Joins (HasLog next reply k) id v other u (with_server v u) spent_view
  joins_server id v other u owns is alone = join_in ByServer id v other u (with_server v u) (server_whole next reply v u owns is alone)

  pub joins_shutter : (id : ℕ) (v : View M S Q A) (other : ℕ) (u : View M S Q A) → v.owns ≡ true → u.shuts ≡ true
      → (u.owns ≡ false) × (u.serves ≡ false) → Joins (HasLog next reply k) id v other u (with_shutter v u) spent_view
  joins_shutter id v other u owns is alone = join_in ByShutter id v other u (with_shutter v u) (shutter_whole next reply v u owns is alone)
