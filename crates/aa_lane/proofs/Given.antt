-- What an owner has collected grows by what it is given, and by nothing else.
use Rattle.std.proofs.Common.{◌≡◌, ℕ, zero, suc, ◌+◌, ◌≤◌, List, [], ◌∷◌, ◌++◌, length, take, refl, sym, ap, ◌∙◌, arith, Option, Some, None, slice_get, add-one, Result, Ok, Err, IfOk, IfErr}
use Rattle.std.proofs.lemmas.List.{append-nil}
use Rattle.aa_machine.specs.Run.{replies}
use Rattle.aa_lane.specs.Ends.{LaneSeen, OwnerSeen, MaySend, Refuses}
use Rattle.aa_lane.specs.declared.event.SendFault.TheVariants.{Spent, Full, Closed}
use Rattle.aa_lane.specs.declared.lane.Unsent.{Unsent}
use Rattle.aa_lane.specs.declared.cells.Entry.{Entry}
use Rattle.aa_lane.specs.Answers.{Collects, answered_from, collected_by, look, sent_of}
use Rattle.aa_lane.specs.declared.lane.Answered.{Answered}

module _ {X : Type 0} where
  take_snoc : (l : List X) (n : ℕ) (x : X) → slice_get l n ≡ Some x → take (suc n) l ≡ take n l ++ x ∷ []
  take_snoc [] n x e = cc
  take_snoc (y ∷ l) zero x e = let z : y ≡ x = cc in rw z refl
  take_snoc (y ∷ l) (suc n) x e = ap (λ k. y ∷ k) (take_snoc l n x e)

module _ {M S Q A : Type 0} (next : M → S → Q → S) (reply : M → S → Q → A) where
  answered_at : (m : M) (n : ℕ) (s : S) (qs : List Q) (i k : ℕ) (q : Q) (a : A) → slice_get qs i ≡ Some q → slice_get (replies (next m) (reply m) s qs) i ≡ Some a → k ≡ n + i
      → slice_get (answered_from next reply m n s qs) i ≡ Some record { number = k; request = q; answer = a }
  answered_at m n s [] i k q a e f is = cc
  answered_at m n s (p ∷ qs) zero k q a e f is =
      let x : p ≡ q = cc in
      let y : reply m s p ≡ a = cc in
      let z : n ≡ k = omega arith in
      let one : Answered M S Q A = record { number = n; request = p; answer = reply m s p } in
      let other : Answered M S Q A = record { number = k; request = q; answer = a } in
      let same : one ≡ other = rw (y, x, z) refl in
      ap Some same
  answered_at m n s (p ∷ qs) (suc i) k q a e f is = answered_at m (suc n) (next m s p) qs i k q a e f (omega arith)

  take_answered : (m : M) (n : ℕ) (s : S) (xs ys : List Q) (i : ℕ) → i ≤ length xs → take i (answered_from next reply m n s (xs ++ ys)) ≡ take i (answered_from next reply m n s xs)
  take_answered m n s [] ys zero h = refl
  take_answered m n s [] ys (suc i) h = absurd (omega arith)
  take_answered m n s (x ∷ xs) ys zero h = refl
  take_answered m n s (x ∷ xs) ys (suc i) h = ap (λ k. record { number = n; request = x; answer = reply m s x } ∷ k) (take_answered m (suc n) (next m s x) xs ys i (omega arith))

  pub sent_collected : (l : LaneSeen M S) (o : OwnerSeen M S Q A) (q : Q) (log : List (Entry M S Q A)) → o.got ≤ length o.sent → collected_by next reply l (sent_of o q log) ≡ collected_by next reply l o
  sent_collected l o q log h = take_answered l.machine 0 l.start o.sent (q ∷ []) o.got h

  pub look_collected : (l : LaneSeen M S) (o o' : OwnerSeen M S Q A) (r : Option (Answered M S Q A)) → Collects next reply l o o' r → collected_by next reply l o' ≡ collected_by next reply l o ++ look r
  look_collected l o o' None h = ap (collected_by next reply l) h.1 ∙ sym (append-nil _)
  look_collected l o o' (Some a) h =
      let all : List (Answered M S Q A) = answered_from next reply l.machine 0 l.start o.sent in
      let at : slice_get all o.got ≡ Some a = answered_at l.machine 0 l.start o.sent o.got a.number a.request a.answer h.2 h.3 (let z = h.1 in omega arith) in
      let more : take (o.got + 1) all ≡ take o.got all ++ a ∷ [] = rw add-one (take_snoc all o.got a at) in
      ap (collected_by next reply l) h.4 ∙ more

  pub send_collected : (l : LaneSeen M S) (o o' : OwnerSeen M S Q A) (q : Q) (r : Result ℕ (Unsent M S Q A))
      → IfOk r (λ n. MaySend o × (n ≡ length o.sent) × (o' ≡ sent_of o q o'.log)) → IfErr r (λ u. (u.request ≡ q) × Refuses u.fault q o o')
      → o.got ≤ length o.sent → collected_by next reply l o' ≡ collected_by next reply l o
  send_collected l o o' q (Ok n) done refused le = ap (collected_by next reply l) done.2 ∙ sent_collected l o q o'.log le
  send_collected l o o' q (Err u) done refused le =
      elim u.fault as (λ f. Refuses f q o o' → collected_by next reply l o' ≡ collected_by next reply l o) [
        | Spent ↦ λ h. ap (collected_by next reply l) h.1
        | Full ↦ λ h. ap (collected_by next reply l) h.2
        | Closed ↦ λ h. ap (collected_by next reply l) h.1
      ] refused.1
