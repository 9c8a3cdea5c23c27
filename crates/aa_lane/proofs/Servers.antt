-- What a server is after each call.
use Rattle.std.proofs.Common.{◌≡◌, ℕ, zero, suc, ◌+◌, ◌%◌, ◌<◌, ◌^◌, List, [], ◌∷◌, ◌++◌, length, refl, sym, ap, ◌∙◌, subst, arith, length-append, take, slice_get, Some}
use Rattle.std.proofs.Math.Seq.{take-append_seam}
use Rattle.atomic_table.specs.Seated.{TableId}
use Rattle.aa_machine.specs.Run.{state_after}
use Rattle.aa_lane.specs.Plays.{Makes, taken_view, finished_view}
use Rattle.aa_lane.specs.Ends.{LaneId, LaneSeen, ServerSeen, known, server_seen, ServerOk, BusyOk}
use Rattle.aa_lane.specs.Log.{Happens}
use Rattle.aa_lane.specs.Answers.{HappensAt}
use Rattle.aa_lane.specs.declared.cells.Who.TheVariants.{ByServer}
use Rattle.aa_lane.specs.declared.event.Event.{Event}
use Rattle.aa_lane.specs.declared.event.Reply.{Reply}
use Rattle.aa_lane.specs.Steps.{CanFinish}
use Rattle.aa_lane.specs.declared.cells.Cell.{Cell}
use Rattle.aa_lane.specs.declared.cells.Cell.TheVariants.{Vacant}
use Rattle.aa_lane.specs.declared.cells.Entry.{Entry}
use Rattle.aa_lane.specs.declared.cells.View.{View}
use Rattle.aa_lane.proofs.Runs.{state_after-snoc}
use Rattle.aa_lane.proofs.Rows.{same_terms}

module _ {X : Type 0} where
  last_of : (xs : List X) (x : X) (n : ℕ) → length xs ≡ n → slice_get (xs ++ x ∷ []) n ≡ Some x
  last_of [] x zero e = refl
  last_of [] x (suc n) e = absurd (omega arith)
  last_of (y ∷ xs) x zero e = absurd (omega arith)
  last_of (y ∷ xs) x (suc n) e = last_of xs x n (omega arith)

  front_and_last : (xs : List X) (x : X) (n : ℕ) → length xs ≡ n + 1 → slice_get xs n ≡ Some x → xs ≡ take n xs ++ x ∷ []
  front_and_last [] x n e h = absurd (omega arith)
  front_and_last (y ∷ []) x zero e h = cc
  front_and_last (y ∷ z ∷ xs) x zero e h = absurd (omega arith)
  front_and_last (y ∷ xs) x (suc n) e h = ap (λ l. y ∷ l) (front_and_last xs x n (omega arith) h)

module _ {M S Q A : Type 0} (next : M → S → Q → S) (reply : M → S → Q → A) where
  pub server_took : (z : TableId) (v : View M S Q A) (held : List (ℕ × Cell M S Q A)) (done : ℕ) (state : S) (q : Q) (n : ℕ) (log : List (Entry M S Q A)) → ServerOk next reply z v held done state → done < 2 ^ 63
      → BusyOk next reply z (taken_view v n q log) ((done % z.slots, Vacant) ∷ []) done state q
  server_took z v held done state q n log ok small =
      let i = ok.idle in
      record {
        serves = ok.serves;
        alone = ok.alone;
        words = ok.words;
        roomy = ok.roomy;
        done_is = ok.done_is;
        small = small;
        busy = omega (arith, length-append v.server.taken (q ∷ []));
        job = last_of v.server.taken q done i;
        state_is = λ m t e. ok.state_is m t e ∙ ap (state_after (next m) (reply m) t) (sym (take-append_seam v.server.taken (q ∷ [])) ∙ ap (λ k. take k (v.server.taken ++ q ∷ [])) i);
        held_is = refl;
      }

  pub server_finished : (z : TableId) (v : View M S Q A) (held : List (ℕ × Cell M S Q A)) (done : ℕ) (state : S) (q : Q) (m : M) (start : S)
      (log : List (Entry M S Q A)) → v.terms ≡ Some (m, start) → BusyOk next reply z v held done state q
      → ServerOk next reply z (finished_view v log) [] (done + 1) (next m state q)
  server_finished z v held done state q m start log terms ok =
      let s = ok.small in
      record {
        serves = ok.serves;
        alone = ok.alone;
        words = ok.words;
        roomy = ok.roomy;
        done_is = ap (λ i. i + 1) ok.done_is;
        small = omega arith;
        idle = ok.busy;
        state_is = λ n t e. let one : m ≡ n = (same_terms v.terms m n start t terms e).0 in
            ap (λ x. next m x q) (ok.state_is n t e) ∙ ap (λ i. next i (state_after (next n) (reply n) t (take done v.server.taken)) q) one ∙ sym (state_after-snoc (next n) (reply n) t (take done v.server.taken) q)
            ∙ ap (state_after (next n) (reply n) t) (sym (front_and_last v.server.taken q done ok.busy ok.job));
        held_is = refl;
      }

  pub busy_can_finish : (z : TableId) (v : View M S Q A) (held : List (ℕ × Cell M S Q A)) (done : ℕ) (state : S) (q : Q) (m : M) (start : S) → v.terms ≡ Some (m, start) → BusyOk next reply z v held done state q
      → CanFinish next reply z (v, held) done (done % z.slots) q (reply m state q)
  busy_can_finish z v held done state q m start terms ok =
      record {
        serves = ok.serves;
        words = ok.words;
        done = ok.done_is;
        small = ok.small;
        busy = ok.busy;
        job = ok.job;
        decided = λ n t e. let one : m ≡ n = (same_terms v.terms m n start t terms e).0 in
            ap (λ i. reply i state q) one ∙ ap (λ x. reply n x q) (ok.state_is n t e);
        slot_is = refl;
        held = ok.held_is;
      }

  -- what a step of the server's seat tells, said of the server
  pub told_of : (z : TableId) (v v' : View M S Q A) (s : ServerSeen M S Q A) (l : LaneSeen M S) (t : ℕ) (e : Event M S Q A) (r r' : Reply M S Q A) → server_seen z v t ≡ s → s.lane ≡ known l → r ≡ r'
      → Makes next reply z.slots v ByServer e r v' → HappensAt next reply l ByServer s.log e r' v'.server.log
  told_of z v v' s l t e r r' is of says told =
      let terms : v.terms ≡ Some (l.machine, l.start) = ap (λ (x : ServerSeen M S Q A). x.lane.terms) is ∙ ap (λ (x : LaneId M S). x.terms) of in
      let table : z ≡ l.table = ap (λ (x : ServerSeen M S Q A). x.lane.table) is ∙ ap (λ (x : LaneId M S). x.table) of in
      let log : v.server.log ≡ s.log = ap (λ (x : ServerSeen M S Q A). x.log) is in
      subst (λ i. Happens next reply l.machine l.start l.table.slots ByServer s.log e i v'.server.log) says
      (subst (λ i. Happens next reply l.machine l.start l.table.slots ByServer i e r v'.server.log) log
      (subst (λ (i : TableId). Happens next reply l.machine l.start i.slots ByServer v.server.log e r v'.server.log) table (told l.machine l.start terms)))
