-- What tasks are answered.
use Rattle.std.specs.Prelude.{◌≡◌, ◌≤◌, List, [], ◌∷◌, map, vec_capacity}
use Rattle.std.specs.Global.{Vec}
use Rattle.std.specs.VecDeque.{deque_len}
use Rattle.aa_lane.specs.Ends.{LaneSeen}
use Rattle.aa_lane.specs.Answers.{answered_from}
use Rattle.aa_lane.specs.declared.lane.Answered.{Answered}
use Rattle.aa_pool.specs.Fed.{FeedSeen}
use Rattle.aa_pool.specs.declared.tasks.Task.{Task}

-- the answers to a task's requests, numbered from 0
abbrev pub answers_to : {M S Q A : Type 0} → (M → S → Q → S) → (M → S → Q → A) → M → S → List Q → List (Answered M S Q A)
answers_to next reply m start requests = answered_from next reply m 0 start requests

-- each lane is to be fed its task's requests
pub record AreFeedsOf {M S Q A : Type 0} (lanes : List (LaneSeen M S)) (tasks : List (Task M S Q A)) (feeds : List (FeedSeen M S Q)) : Type 0 where
  pub lanes_are : map (λ f. f.lane) feeds ≡ lanes
  pub requests_are : map (λ f. f.all) feeds ≡ map (λ t. t.requests.items) tasks

-- there is an empty list for each task, with room for all answers
abbrev pub AreRooms : {M S Q A : Type 0} → List (Task M S Q A) → List (Vec (Answered M S Q A)) → Type 0
AreRooms [] [] = Unit {0}
AreRooms [] (r ∷ rs) = ⊥
AreRooms (t ∷ ts) [] = ⊥
AreRooms (t ∷ ts) (r ∷ rs) = (r.items ≡ []) × (deque_len t.requests ≤ vec_capacity r) × AreRooms ts rs
