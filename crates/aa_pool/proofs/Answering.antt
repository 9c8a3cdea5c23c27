-- What sending and collecting keep of a lane that is fed.
use Rattle.std.proofs.Common.{◌≡◌, ℕ, suc, ◌+◌, ◌<◌, ◌≤◌, List, [], ◌∷◌, ◌++◌, map, length, take, Option, Some, None, Bool, true, sym, refl, ap, ◌∙◌, subst, arith, length-append}
use Rattle.std.proofs.lemmas.List.{length-map, map-append}
use Rattle.std.proofs.lemmas.Option.{slice_get_within}
use Rattle.std.proofs.Math.Seq.{take-length, take-append_seam}
use Rattle.std.specs.Option.{is_none}
use Rattle.aa_machine.specs.Run.{state_after}
use Rattle.aa_lane.specs.Ends.{LaneSeen, OwnerSeen}
use Rattle.aa_lane.specs.Answers.{answered_from, collected_by, sent_of, left_of, collected_of, Collects}
use Rattle.aa_lane.specs.declared.lane.Answered.{Answered}
use Rattle.aa_pool.specs.Fed.{IsFed, MayGoOn, HasLeft, HasCollected, IsFeed, all_of}

module _ {M S Q A : Type 0} (next : M → S → Q → S) (reply : M → S → Q → A) where
  answered-length : (m : M) (n : ℕ) (s : S) (qs : List Q) → length (answered_from next reply m n s qs) ≡ length qs
  answered-length m n s [] = refl
  answered-length m n s (q ∷ qs) = let h : length (answered_from next reply m (suc n) (next m s q) qs) ≡ length qs = answered-length m (suc n) (next m s q) qs in omega arith

  requests_of : (m : M) (n : ℕ) (s : S) (qs : List Q) → map (λ (a : Answered M S Q A). a.request) (answered_from next reply m n s qs) ≡ qs
  requests_of m n s [] = refl
  requests_of m n s (q ∷ qs) = λ i. q ∷ requests_of m (suc n) (next m s q) qs i

  -- an answer more is collected
  pub collected : (l : LaneSeen M S) (o o' : OwnerSeen M S Q A) (answered : List (Answered M S Q A)) (a : Answered M S Q A) → IsFed next reply l o answered → Collects next reply l o o' (Some a)
      → collected_by next reply l o' ≡ collected_by next reply l o ++ a ∷ [] → IsFed next reply l o' (answered ++ a ∷ [])
  collected l o o' answered a h c more =
      let w : o.got < length o.sent = slice_get_within o.sent o.got a.request c.2 in
      let e : o' ≡ collected_of o o'.found o'.log = c.4 in
      let got : o'.got ≡ o.got + 1 = ap (λ (x : OwnerSeen M S Q A). x.got) e in
      let sent : o'.sent ≡ o.sent = ap (λ (x : OwnerSeen M S Q A). x.sent) e in
      record {
        of = ap (λ (x : OwnerSeen M S Q A). x.lane) e ∙ h.of;
        count = omega (arith, length-append answered (a ∷ []), h.count);
        within = rw (got, sent) (omega arith);
        right = (λ i. h.right i ++ a ∷ []) ∙ sym more;
      }

  -- a request more is accepted
  pub accepted : (l : LaneSeen M S) (o o' : OwnerSeen M S Q A) (answered : List (Answered M S Q A)) (q : Q) → IsFed next reply l o answered → o' ≡ sent_of o q o'.log
      → collected_by next reply l o' ≡ collected_by next reply l o → IsFed next reply l o' answered
  accepted l o o' answered q h e same =
      let got : o'.got ≡ o.got = ap (λ (x : OwnerSeen M S Q A). x.got) e in
      let sent : o'.sent ≡ o.sent ++ q ∷ [] = ap (λ (x : OwnerSeen M S Q A). x.sent) e in
      record {
        of = ap (λ (x : OwnerSeen M S Q A). x.lane) e ∙ h.of;
        count = h.count ∙ sym got;
        within = rw (got, sent) (omega (arith, length-append o.sent (q ∷ []), h.within));
        right = h.right ∙ sym same;
      }

  -- as many answers as were sent are all
  pub has_left : (l : LaneSeen M S) (o o' : OwnerSeen M S Q A) (answered : List (Answered M S Q A)) (left : List Q) → IsFed next reply l o answered
      → length answered ≡ length o.sent → (MayGoOn o → left ≡ []) → o' ≡ left_of o o'.log → HasLeft next reply l o' answered left
  has_left l o o' answered left h e all is =
      let given : List (Answered M S Q A) = answered_from next reply l.machine 0 l.start o.sent in
      let n : o.got ≡ length given = omega (arith, answered-length l.machine 0 l.start o.sent, h.count) in
      let right : answered ≡ given = h.right ∙ ap (λ k. take k given) n ∙ take-length given in
      let count : o.got ≡ length o.sent = omega (arith, h.count) in
      subst (λ p. HasLeft next reply l p answered left) (sym is) (record { of = h.of; count = count; requests = ap (map (λ (a : Answered M S Q A). a.request)) right ∙ requests_of l.machine 0 l.start o.sent; right = right; all = all })

  -- a feed without an owner has the one that left
  pub is_left : (l : LaneSeen M S) (owner leaver : Option (OwnerSeen M S Q A)) (answered : List (Answered M S Q A)) (left : List Q) (sent room : ℕ) (is_open : Bool) (o : OwnerSeen M S Q A)
      → IsFeed next reply l owner leaver answered left sent is_open × (length (all_of owner leaver left) ≤ room) → is_none owner ≡ true → leaver ≡ Some o → HasLeft next reply l o answered left
  is_left l (Some p) leaver answered left sent room is_open o h none is = cc
  is_left l None None answered left sent room is_open o h none is = cc
  is_left l None (Some p) answered left sent room is_open o h none is = let e : p ≡ o = cc in rw e at h.0

  -- with what is decided of the rest, the first answers are those that the owner has collected
  pub has_collected : (l : LaneSeen M S) (o : OwnerSeen M S Q A) (answered answers : List (Answered M S Q A)) (left : List Q) → HasLeft next reply l o answered left
      → answers ≡ answered_from next reply l.machine 0 l.start (map (λ (a : Answered M S Q A). a.request) answered ++ left) → HasCollected o answers
  has_collected l o answered answers left h is =
      let requests : map (λ (a : Answered M S Q A). a.request) answers ≡ o.sent ++ left = ap (map (λ (a : Answered M S Q A). a.request)) is ∙ requests_of l.machine 0 l.start _ ∙ ap (λ qs. qs ++ left) h.requests in
      record {
        got = h.count;
        sent = sym (ap (take (length o.sent)) requests ∙ take-append_seam o.sent left);
        all = λ m. omega (arith, ap length requests, length-map answers (λ (a : Answered M S Q A). a.request), length-append o.sent left, ap length (h.all m));
      }

  answered-snoc : (m : M) (n : ℕ) (s : S) (qs : List Q) (a : Answered M S Q A) → a.number ≡ n + length qs → a.answer ≡ reply m (state_after (next m) (reply m) s qs) a.request
      → answered_from next reply m n s (qs ++ a.request ∷ []) ≡ answered_from next reply m n s qs ++ a ∷ []
  answered-snoc m n s [] a number answer = let e : n ≡ a.number = omega arith in λ i. record { number = e i; request = a.request; answer = sym answer i } ∷ []
  answered-snoc m n s (q ∷ qs) a number answer =
      λ i. record { number = n; request = q; answer = reply m s q } ∷ answered-snoc m (suc n) (next m s q) qs a (omega arith) answer i

  -- one request more is decided
  pub decided : (m : M) (s : S) (rows : List (Answered M S Q A)) (a : Answered M S Q A) → rows ≡ answered_from next reply m 0 s (map (λ (r : Answered M S Q A). r.request) rows) → a.number ≡ length rows
      → a.answer ≡ reply m (state_after (next m) (reply m) s (map (λ (r : Answered M S Q A). r.request) rows)) a.request
      → rows ++ a ∷ [] ≡ answered_from next reply m 0 s (map (λ (r : Answered M S Q A). r.request) (rows ++ a ∷ []))
  decided m s rows a h number answer =
      let qs : List Q = map (λ (r : Answered M S Q A). r.request) rows in
      let n : a.number ≡ 0 + length qs = omega (arith, number, length-map rows (λ (r : Answered M S Q A). r.request)) in
      (λ i. h i ++ a ∷ []) ∙ sym (answered-snoc m 0 s qs a n answer) ∙ ap (answered_from next reply m 0 s) (sym (map-append (λ (r : Answered M S Q A). r.request) rows (a ∷ [])))
