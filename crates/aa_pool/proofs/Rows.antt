-- Lanes that are the same have the same answers, and the same machine.
use Rattle.std.proofs.Common.{◌≡◌, suc, ◌<◌, List, [], ◌∷◌, map, length, drop, get_or, All, sym, refl, ap, ◌∙◌, arith}
use Rattle.std.proofs.lemmas.List.{length-map, get_or-map}
use Rattle.aa_lane.specs.Ends.{LaneSeen, known}
use Rattle.aa_lane.specs.Answers.{answered_from}
use Rattle.aa_pool.specs.Fed.{FeedSeen, AreSame, AreAllFed, answers_of}
use Rattle.aa_pool.specs.Answers.{answers_to}
use Rattle.aa_pool.specs.declared.tasks.Task.{Task}

module _ {M S Q : Type 0} where
  rest : (x y : FeedSeen M S Q) (fs gs : List (FeedSeen M S Q)) → AreSame (x ∷ fs) (y ∷ gs) → AreSame fs gs
  rest x y fs gs h = let n : length (y ∷ gs) ≡ length (x ∷ fs) = h.len in record { len = omega arith; lanes = λ i d b. h.lanes (suc i) d (omega arith); all = λ i d b. h.all (suc i) d (omega arith) }

  -- what hangs on lane and requests alone is the same
  pub same_map : {B : Type 0} (k : LaneSeen M S → List Q → B) (fs gs : List (FeedSeen M S Q)) → AreSame fs gs → map (λ (f : FeedSeen M S Q). k f.lane f.all) gs ≡ map (λ (f : FeedSeen M S Q). k f.lane f.all) fs
  same_map k [] [] h = refl
  same_map k [] (y ∷ gs) h = let n : length (y ∷ gs) ≡ 0 = h.len in absurd (omega arith)
  same_map k (x ∷ fs) [] h = let n : 0 ≡ length (x ∷ fs) = h.len in absurd (omega arith)
  same_map k (x ∷ fs) (y ∷ gs) h =
      let a : y.lane ≡ x.lane = h.lanes 0 x (omega arith) in
      let b : y.all ≡ x.all = h.all 0 x (omega arith) in
      λ i. k (a i) (b i) ∷ same_map k fs gs (rest x y fs gs h) i

  pub same_machine : (m : M) (fs gs : List (FeedSeen M S Q)) → AreSame fs gs → All (λ (f : FeedSeen M S Q). f.lane.machine ≡ m) fs → All (λ (f : FeedSeen M S Q). f.lane.machine ≡ m) gs
  same_machine m fs gs h all k d b = let n : k < length fs = omega (arith, h.len) in ap (λ (l : LaneSeen M S). l.machine) (h.lanes k d n) ∙ all k d n

module _ {M S Q : Type 0} where
  -- each lane is of the machine
  pub of_machine : (m : M) (ls : List (LaneSeen M S)) (fs : List (FeedSeen M S Q)) → map (λ (f : FeedSeen M S Q). f.lane) fs ≡ ls
      → All (λ (l : LaneSeen M S). l.machine ≡ m) ls → All (λ (f : FeedSeen M S Q). f.lane.machine ≡ m) fs
  of_machine m ls fs e all k d below =
      let n : k < length ls = omega (arith, ap length e, length-map fs (λ (f : FeedSeen M S Q). f.lane), below) in
      let at : get_or (map (λ (f : FeedSeen M S Q). f.lane) fs) k d.lane ≡ (get_or fs k d).lane = get_or-map (λ (f : FeedSeen M S Q). f.lane) fs k d d.lane below in
      ap (λ (l : LaneSeen M S). l.machine) (sym at ∙ ap (λ xs. get_or xs k d.lane) e) ∙ all k d.lane n

  pub lanes_known : (fs : List (FeedSeen M S Q)) → map (λ (f : FeedSeen M S Q). known f.lane) fs ≡ map known (map (λ (f : FeedSeen M S Q). f.lane) fs)
  lanes_known [] = refl
  lanes_known (f ∷ fs) = λ i. known f.lane ∷ lanes_known fs i

module _ {M S Q A : Type 0} (next : M → S → Q → S) (reply : M → S → Q → A) (m : M) where
  -- the answers of all lanes are those of their tasks
  pub all_answers : (fs : List (FeedSeen M S Q)) (ts : List (Task M S Q A)) → map (λ (f : FeedSeen M S Q). f.all) fs ≡ map (λ (t : Task M S Q A). t.requests.items) ts
      → map (λ (t : Task M S Q A). t.start) ts ≡ map (λ (l : LaneSeen M S). l.start) (map (λ (f : FeedSeen M S Q). f.lane) fs) → All (λ (f : FeedSeen M S Q). f.lane.machine ≡ m) fs
      → map (answers_of next reply) fs ≡ map (λ (t : Task M S Q A). answers_to next reply m t.start t.requests.items) ts
  all_answers [] [] rs ss ms = refl
  all_answers [] (t ∷ ts) rs ss ms = let n : 0 ≡ length (map (λ (t : Task M S Q A). t.requests.items) (t ∷ ts)) = ap length rs in absurd (omega (arith, n))
  all_answers (f ∷ fs) [] rs ss ms = let n : length (map (λ (f : FeedSeen M S Q). f.all) (f ∷ fs)) ≡ 0 = ap length rs in absurd (omega (arith, n))
  all_answers (f ∷ fs) (t ∷ ts) rs ss ms =
      let r : f.all ≡ t.requests.items = ap (λ l. get_or l 0 f.all) rs in
      let s : t.start ≡ f.lane.start = ap (λ l. get_or l 0 t.start) ss in
      let e : f.lane.machine ≡ m = ms 0 f (omega arith) in
      λ i. answered_from next reply (e i) 0 (sym s i) (r i) ∷ all_answers fs ts (ap (drop 1) rs) (ap (drop 1) ss) (λ k d b. ms (suc k) d (omega (arith, b))) i

module _ {M S Q : Type 0} where
  pub same_on : (fs gs hs : List (FeedSeen M S Q)) → AreSame fs gs → AreSame gs hs → AreSame fs hs
  same_on fs gs hs a b = record {
    len = b.len ∙ a.len;
    lanes = λ k d below. b.lanes k d (omega (arith, a.len)) ∙ a.lanes k d below;
    all = λ k d below. b.all k d (omega (arith, a.len)) ∙ a.all k d below;
  }

  pub fed_on : (fs gs hs : List (FeedSeen M S Q)) → AreSame fs gs → AreAllFed gs hs → AreAllFed fs hs
  fed_on fs gs hs a b = record { same = same_on fs gs hs a b.same; finished = b.finished }

  pub same_as : (fs gs : List (FeedSeen M S Q)) → fs ≡ gs → AreSame fs gs
  same_as fs gs e = record {
    len = ap length (sym e);
    lanes = λ k d below. ap (λ l. (get_or l k d).lane) (sym e);
    all = λ k d below. ap (λ l. (get_or l k d).all) (sym e);
  }
