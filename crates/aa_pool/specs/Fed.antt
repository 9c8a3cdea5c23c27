-- What a lane was fed and has answered.
use Rattle.std.specs.Prelude.{◌≡◌, ℕ, ◌≤◌, ◌≢◌, Bool, Option, Some, None, List, [], ◌++◌, map, take, length, ◌<◌, All, true, false, slice_index_or}
use Rattle.aa_lane.specs.WorldState.{most_accepted}
use Rattle.aa_lane.specs.Ends.{LaneSeen, OwnerSeen, known}
use Rattle.aa_lane.specs.Answers.{answered_from, collected_by}
use Rattle.aa_lane.specs.declared.lane.Answered.{Answered}

-- a lane that is fed: its requests, sent or left, and whether its owner has left
pub record FeedSeen (M S Q : Type 0) : Type 0 where
  pub lane : LaneSeen M S
  pub all : List Q
  pub finished : Bool

module _ {M S Q A : Type 0} where
  -- what was asked, of an owner or of one that has left, where these requests are left
  abbrev pub all_of : Option (OwnerSeen M S Q A) → Option (OwnerSeen M S Q A) → List Q → List Q
  all_of (Some o) leaver left = o.sent ++ left
  all_of None (Some o) left = o.sent ++ left
  all_of None None left = left

-- an owner wasn't told that its lane accepts nothing more, since it is shut, or has accepted as many requests as a lane does
abbrev pub MayGoOn : {M S Q A : Type 0} → OwnerSeen M S Q A → Type 0
MayGoOn o = (o.closed ≢ true) × (length o.sent ≢ most_accepted)

-- an owner has collected all that it sent, and these are the first of the answers; they are all of them, unless it was told that the lane accepts nothing more
pub record HasCollected {M S Q A : Type 0} (o : OwnerSeen M S Q A) (answers : List (Answered M S Q A)) : Type 0 where
  pub got : o.got ≡ length o.sent
  pub sent : o.sent ≡ take (length o.sent) (map (λ a. a.request) answers)
  pub all : MayGoOn o → length o.sent ≡ length answers

module _ {M S Q A : Type 0} (next : M → S → Q → S) (reply : M → S → Q → A) where
  -- the owner is the lane's, and has collected these answers
  pub record IsFed (l : LaneSeen M S) (o : OwnerSeen M S Q A) (answered : List (Answered M S Q A)) : Type 0 where
    pub of : o.lane ≡ known l
    pub count : length answered ≡ o.got
    pub within : o.got ≤ length o.sent
    pub right : answered ≡ collected_by next reply l o

  -- the owner has left its lane, and has the answers to all that it sent; it left nothing unsent, unless it was told that the lane accepts nothing more
  pub record HasLeft (l : LaneSeen M S) (o : OwnerSeen M S Q A) (answered : List (Answered M S Q A)) (left : List Q) : Type 0 where
    pub of : o.lane ≡ known l
    pub count : o.got ≡ length o.sent
    pub requests : map (λ a. a.request) answered ≡ o.sent
    pub right : answered ≡ answered_from next reply l.machine 0 l.start o.sent
    pub all : MayGoOn o → left ≡ []

  -- an owner of the lane with so many sent has collected these answers, and the lane is open to it, or it was told that the lane accepts nothing more; or it has left, with all answers to what was accepted
  abbrev pub IsFeed : LaneSeen M S → Option (OwnerSeen M S Q A) → Option (OwnerSeen M S Q A) → List (Answered M S Q A) → List Q → ℕ → Bool → Type 0
  IsFeed l (Some o) leaver answered left sent is_open = IsFed l o answered × (sent ≡ length o.sent) × (is_open ≡ false → MayGoOn o → ⊥)
  IsFeed l None (Some o) answered left sent is_open = HasLeft l o answered left
  IsFeed l None None answered left sent is_open = ⊥

-- each lane is the one that it was, with the same requests
pub record AreSame {M S Q : Type 0} (fs gs : List (FeedSeen M S Q)) : Type 0 where
  pub len : length gs ≡ length fs
  pub lanes : (i : ℕ) (d : FeedSeen M S Q) → i < length fs → (slice_index_or gs i d).lane ≡ (slice_index_or fs i d).lane
  pub all : (i : ℕ) (d : FeedSeen M S Q) → i < length fs → (slice_index_or gs i d).all ≡ (slice_index_or fs i d).all

-- and all owners have left
pub record AreAllFed {M S Q : Type 0} (fs gs : List (FeedSeen M S Q)) : Type 0 where
  pub same : AreSame fs gs
  pub finished : All (λ f. f.finished ≡ true) gs

-- the answers to all requests of a lane
abbrev pub answers_of : {M S Q A : Type 0} → (M → S → Q → S) → (M → S → Q → A) → FeedSeen M S Q → List (Answered M S Q A)
answers_of next reply f = answered_from next reply f.lane.machine 0 f.lane.start f.all
