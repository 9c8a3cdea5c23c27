-- What the last state of a lane's table tells.
use Rattle.std.proofs.Common.{◌≡◌, ℕ, true, is_some, List, length, take, refl, sym, ap, ◌∙◌, subst, arith, length-take, Some}
use mathlib.Core.Option.{some}
use lib.ListN.{get_elem?}
use Rattle.atomic_table.specs.Table.{Final, Seen}
use Rattle.aa_lane.specs.declared.cells.Cell.{Cell}
use Rattle.atomic_table.specs.Seated.{TableId}
use Rattle.aa_machine.specs.Run.{state_after}
use Rattle.aa_lane.specs.WorldState.{WorldState}
use Rattle.aa_lane.specs.Log.{leaves, GoesOn}
use Rattle.aa_lane.specs.declared.cells.Entry.{Entry}
use Rattle.aa_lane.specs.declared.cells.Who.TheVariants.{ByOwner, ByServer, ByShutter}
use Rattle.aa_lane.specs.Shows.{HasLog, OwnerFits, ServerFits, ShutterFits}
use Rattle.aa_lane.specs.Ends.{LaneId, LaneSeen, OwnerSeen, ServerSeen, ShutterSeen, known, owner_seen, server_seen, shutter_seen}
use Rattle.aa_lane.specs.Totals.{joined, LastState, Agrees, HasOneOrder}
use Rattle.aa_lane.specs.declared.cells.View.{View}
use Rattle.aa_lane.specs.declared.cells.Key.{Key}
use Rattle.aa_lane.specs.declared.lane.Ends.{Ends}
use Rattle.aa_lane.specs.declared.lane.Totals.{Totals}
use Rattle.aa_lane.proofs.Rows.{same_terms}

module _ {M S Q A : Type 0} (next : M → S → Q → S) (reply : M → S → Q → A) where
  pub tells : (k : Key M S Q A) (o s u : View M S Q A) (l : LaneSeen M S) (e : Ends M S Q A) (t : Totals M S Q A) (z1 z2 z3 : TableId) (t1 t2 t3 : ℕ)
      → LastState next reply k (joined o s u) → l.machine ≡ k.machine.now → l.start ≡ k.start → l.table.slots ≡ k.capacity
      → e.owner ≡ owner_seen z1 o t1 → e.server ≡ server_seen z2 s t2 → e.shutter ≡ shutter_seen z3 u t3
      → e.owner.lane ≡ known l → e.server.lane ≡ known l
      → o.owns ≡ true → o.owner.left ≡ true → length s.server.taken ≡ s.server.done
      → t.accepted ≡ length o.owner.sent → t.answered ≡ s.server.done → t.collected ≡ o.owner.got
      → ((m : M) (b : S) → s.terms ≡ Some (m, b) → t.state ≡ state_after (next m) (reply m) b s.server.taken)
      → HasOneOrder next reply l e t
  tells k o s u l e t z1 z2 z3 t1 t2 t3 last lm ls lc eo es eu lane_o lane_s owns left idle accepted answered collected state =
      let id : ℕ = last.1 in
      let h : HasLog next reply k last.0 = last.2 in
      let j : View M S Q A = joined o s u in
      let at : get_elem? last.0.views id ≡ some j = last.3 in
      let w : WorldState M S Q A = leaves next reply k.machine.now k.start k.capacity h.log in
      let fo = h.shows.seats ByOwner id j at owns in
      let fs = h.shows.seats ByServer id j at refl in
      let fu = h.shows.seats ByShutter id j at refl in
      let own : OwnerFits last.0.homes w o.owner = fo.2 in
      let serve : ServerFits w s.server = fs.2 in
      let shut : ShutterFits w u.shutter = fu.2 in
      let o_terms : o.terms ≡ Some (l.machine, l.start) = ap (λ (x : OwnerSeen M S Q A). x.lane.terms) (sym eo) ∙ ap (λ (x : LaneId M S). x.terms) lane_o in
      let s_terms : s.terms ≡ Some (l.machine, l.start) = ap (λ (x : ServerSeen M S Q A). x.lane.terms) (sym es) ∙ ap (λ (x : LaneId M S). x.terms) lane_s in
      let one = same_terms o.terms l.machine w.machine l.start w.start o_terms fo.1 in
      let count : length o.owner.sent ≡ length w.accepted = ap length own.sent in
      let done : s.server.done ≡ length w.answers = serve.done in
      let all_taken : w.taken ≡ length w.answers =
      let n : length (take w.taken w.accepted) ≡ s.server.done = ap length (sym serve.taken) ∙ idle in
      let b = h.shows.lawful.sent in
      omega (arith, length-take w.taken w.accepted) in
      let taken : s.server.taken ≡ take (length w.answers) w.accepted = serve.taken ∙ ap (λ i. take i w.accepted) all_taken in
      let shown : Agrees next reply e t w = record {
        lawful = h.shows.lawful;
        shut = own.left left;
        sent = ap (λ (x : OwnerSeen M S Q A). x.sent) eo ∙ own.sent;
        got = ap (λ (x : OwnerSeen M S Q A). x.got) eo ∙ own.got;
        taken = ap (λ (x : ServerSeen M S Q A). x.taken) es ∙ serve.taken;
        done = ap (λ (x : ServerSeen M S Q A). x.done) es ∙ serve.done;
        accepted = accepted ∙ count;
        answered = answered ∙ done;
        collected = collected ∙ own.got;
        state = state l.machine l.start s_terms ∙ rw (one.0, one.1, taken) (sym h.shows.lawful.reached);
        counted = λ c is. accepted ∙ count ∙ sym (shut.count c (ap (λ (x : ShutterSeen M S Q A). x.count) (sym eu) ∙ is)).1;
        closed = λ is. ap (λ (x : ShutterSeen M S Q A). is_some x.count) eu ∙ h.shows.shut_by.closed id id j j at owns at refl (ap (λ (x : OwnerSeen M S Q A). x.closed) (sym eo) ∙ is);
        within = let a = h.shows.lawful.gotten in let b = h.shows.lawful.begun in let c = h.shows.lawful.sent in let g = own.got in (omega arith, omega arith);
        settled = λ is. answered ∙ done ∙ (serve.settled (ap (λ (x : ServerSeen M S Q A). x.settled) (sym es) ∙ is)).1 ∙ sym (accepted ∙ count);
      } in
      record {
        log = h.log;
        is = rw (lm, ls, lc) h.is;
        owner = subst (λ (l : List (Entry M S Q A)). GoesOn ByOwner l h.log) (ap (λ (x : OwnerSeen M S Q A). x.log) (sym eo)) (h.seen ByOwner id j at owns);
        server = subst (λ (l : List (Entry M S Q A)). GoesOn ByServer l h.log) (ap (λ (x : ServerSeen M S Q A). x.log) (sym es)) (h.seen ByServer id j at refl);
        shutter = subst (λ (l : List (Entry M S Q A)). GoesOn ByShutter l h.log) (ap (λ (x : ShutterSeen M S Q A). x.log) (sym eu)) (h.seen ByShutter id j at refl);
        shown = rw (lm, ls, lc) shown;
      }

  pub last_of : (k : Key M S Q A) (id : ℕ) (v : View M S Q A) (ws : List ℕ) (xs : List (Cell M S Q A)) → Final (Seen (HasLog next reply k) id v) ws xs → LastState next reply k v
  last_of k id v ws xs f = (f.0, id, f.1.0, f.1.1)
