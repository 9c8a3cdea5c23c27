-- Rooms for answers, and lanes that were closed.
use Rattle.std.proofs.Common.{◌≡◌, ℕ, suc, ◌^◌, ◌<◌, ◌≤◌, List, [], ◌∷◌, ◌++◌, All, map, length, take, is_some, true, false, vec_capacity, ◌≢◌, sym, refl, ap, ◌∙◌, arith}
use Rattle.std.proofs.lemmas.List.{length-map, take_all}
use mathlib.Core.Logic.{dite}
use native.Mathlib.Decide.{ℕ_discrete}
use Rattle.std.specs.Global.{Vec}
use Rattle.std.specs.VecDeque.{deque_len}
use Rattle.aa_lane.specs.WorldState.{most_accepted}
use Rattle.aa_lane.specs.Ends.{LaneSeen, ShutterSeen, new_shutter}
use Rattle.aa_lane.specs.Totals.{HasOneOrder}
use Rattle.aa_lane.specs.declared.lane.Answered.{Answered}
use Rattle.aa_lane.specs.declared.lane.Ends.{Ends}
use Rattle.aa_lane.specs.declared.lane.Totals.{Totals}
use Rattle.aa_pool.specs.Fed.{HasCollected}
use Rattle.aa_pool.specs.Answers.{AreRooms}
use Rattle.aa_pool.specs.Closed.{WereClosed, AreOutcomes}
use Rattle.aa_pool.specs.declared.close.Outcome.{Outcome}
use Rattle.aa_pool.specs.declared.tasks.Task.{Task}

module _ {M S Q A : Type 0} where
  pub rooms_more : (ts : List (Task M S Q A)) (rs : List (Vec (Answered M S Q A))) (t : Task M S Q A) (r : Vec (Answered M S Q A)) → AreRooms ts rs
      → r.items ≡ [] → deque_len t.requests ≤ vec_capacity r → AreRooms (ts ++ t ∷ []) (rs ++ r ∷ [])
  rooms_more [] [] t r h e w = (e, w, tt)
  rooms_more [] (x ∷ rs) t r h e w = absurd h
  rooms_more (x ∷ ts) [] t r h e w = absurd h
  rooms_more (x ∷ ts) (y ∷ rs) t r h e w = (h.0, h.1, rooms_more ts rs t r h.2 e w)

  pub rooms_length : (ts : List (Task M S Q A)) (rs : List (Vec (Answered M S Q A))) → AreRooms ts rs → length rs ≡ length ts
  rooms_length [] [] h = refl
  rooms_length [] (r ∷ rs) h = absurd h
  rooms_length (t ∷ ts) [] h = absurd h
  rooms_length (t ∷ ts) (r ∷ rs) h = let e : length rs ≡ length ts = rooms_length ts rs h.2 in omega arith

module _ {M S Q A : Type 0} (next : M → S → Q → S) (reply : M → S → Q → A) where
  -- where only the owner shut a lane, all requests went through it, up to as many as it accepts in all
  pub through : (l : LaneSeen M S) (e : Ends M S Q A) (t : Totals M S Q A) (answers : List (Answered M S Q A)) → HasOneOrder next reply l e t → HasCollected e.owner answers → e.shutter ≡ new_shutter l
      → e.owner.sent ≡ take most_accepted (map (λ (a : Answered M S Q A). a.request) answers)
  through l e t answers order h alone =
      let requests : List Q = map (λ (a : Answered M S Q A). a.request) answers in
      let few : length e.owner.sent < 2 ^ 62 = rw order.shown.sent order.shown.lawful.spent in
      dite (ℕ_discrete (length e.owner.sent) most_accepted)
      (λ (most : length e.owner.sent ≡ most_accepted). h.sent ∙ ap (λ n. take n requests) most)
      (λ ne.
      let told : e.owner.closed ≢ true = λ closed. let counted : is_some e.shutter.count ≡ true = order.shown.closed closed in let not : true ≡ false = sym counted ∙ ap (λ (s : ShutterSeen M S Q A). is_some s.count) alone in cc in
      let n : length requests ≡ length e.owner.sent = length-map answers (λ (a : Answered M S Q A). a.request) ∙ sym (h.all (told, ne)) in
      h.sent ∙ take_all (length e.owner.sent) requests (omega (arith, n)) ∙ sym (take_all most_accepted requests (omega (arith, n, few))))

  opened : (m : M) (c : ℕ) (ls : List (LaneSeen M S)) (os : List (Outcome M S Q A)) → All (λ l. (l.machine ≡ m) × (l.table.slots ≡ c)) ls
      → WereClosed next reply ls os → AreOutcomes next reply m c (map (λ (l : LaneSeen M S). l.start) ls) os
  opened m c [] [] terms h = tt
  opened m c [] (o ∷ os) terms h = absurd h
  opened m c (l ∷ ls) [] terms h = absurd h
  opened m c (l ∷ ls) (o ∷ os) terms h =
      let t = terms 0 l (omega arith) in
      (record { lane = l; machine = t.0; start = refl; capacity = t.1; closed = h.0 }, opened m c ls os (λ k d below. terms (suc k) d (omega (arith, below))) h.1)

  -- lanes of a machine, a capacity and opening states that were closed
  pub outcomes : (m : M) (c : ℕ) (ls : List (LaneSeen M S)) (ss : List S) (os : List (Outcome M S Q A)) → map (λ (l : LaneSeen M S). l.start) ls ≡ ss
      → All (λ l. (l.machine ≡ m) × (l.table.slots ≡ c)) ls → WereClosed next reply ls os → AreOutcomes next reply m c ss os
  outcomes m c ls ss os e terms h = rw e at (opened m c ls os terms h)
