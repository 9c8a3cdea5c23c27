-- The world of a lane as plain lists, and what each event makes of it.
use Rattle.std.specs.Prelude.{◌≡◌, ℕ, ◌+◌, ◌-◌, ◌^◌, ◌<◌, ◌≤◌, ◌==◌, nat_lt, Bool, true, false, cond, List, [], ◌∷◌, ◌++◌, length, take, Option, None, Some, slice_get}
use Rattle.aa_machine.specs.Run.{state_after, replies}
use Rattle.aa_lane.specs.declared.event.SendFault.TheVariants.{Spent, Full, Closed}
use Rattle.aa_lane.specs.declared.event.Event.{Event}
use Rattle.aa_lane.specs.declared.event.Event.TheVariants.{Send, Take, Finish, Collect, Shut}
use Rattle.aa_lane.specs.declared.event.Reply.{Reply}
use Rattle.aa_lane.specs.declared.event.Reply.TheVariants.{Accepted, Unsent, Taken, Idle, Settled, Held, Finished, NoJob, Given, Nothing, Count}

-- how many requests a lane accepts in all: 2 ^ 62 - 1
abbrev pub most_accepted : ℕ
most_accepted = 4611686018427387903

-- the machine, its first state and the capacity, which never change; the accepted requests and their answers; how many were taken and collected; the machine's state, and whether the lane is shut
pub record WorldState (M S Q A : Type 0) : Type 0 where
  pub machine : M
  pub start : S
  pub capacity : ℕ
  pub accepted : List Q
  pub answers : List A
  pub taken : ℕ
  pub collected : ℕ
  pub state : S
  pub shut : Bool

module _ {M S Q A : Type 0} where
  -- nothing has happened
  abbrev pub opening : M → S → ℕ → WorldState M S Q A
  opening m s c = record { machine = m; start = s; capacity = c; accepted = []; answers = []; taken = 0; collected = 0; state = s; shut = false }

  -- the owner may not send, by its own counts or since the lane was shut
  abbrev pub is_spent : WorldState M S Q A → Bool
  is_spent w = length w.accepted == most_accepted

  -- as many requests are uncollected as the lane has room for
  abbrev pub is_full : WorldState M S Q A → Bool
  is_full w = (length w.accepted - w.collected) == w.capacity

  -- shut, and every accepted request is answered
  abbrev pub IsSettled : WorldState M S Q A → Type 0
  IsSettled w = (w.shut ≡ true) × (length w.answers ≡ length w.accepted)

  -- an event with this reply makes a list longer
  abbrev pub Grows : Reply M S Q A → Type 0
  Grows (Accepted n) = Unit {0}
  Grows (Unsent f q) = ⊥
  Grows (Taken n) = ⊥
  Grows Idle = ⊥
  Grows Settled = ⊥
  Grows Held = ⊥
  Grows (Finished n) = Unit {0}
  Grows NoJob = ⊥
  Grows (Given n) = ⊥
  Grows Nothing = ⊥
  Grows (Count n) = ⊥

module _ {M S Q A : Type 0} (next : M → S → Q → S) (reply : M → S → Q → A) where
  -- the next request is decided, where there is one
  abbrev pub decided : WorldState M S Q A → Option Q → WorldState M S Q A
  decided w None = w
  decided w (Some q) = record w { answers = w.answers ++ reply w.machine w.state q ∷ []; state = next w.machine w.state q }

  -- the world after an event
  abbrev pub after : WorldState M S Q A → Event M S Q A → WorldState M S Q A
  after w (Send q) = cond (is_spent w) w (cond (is_full w) w (cond w.shut w (record w { accepted = w.accepted ++ q ∷ [] })))
  after w Take = cond (nat_lt (length w.answers) w.taken) w (cond (nat_lt w.taken (length w.accepted)) (record w { taken = w.taken + 1 }) w)
  after w Finish = cond (w.taken == length w.answers) w (decided w (slice_get w.accepted (length w.answers)))
  after w Collect = cond (nat_lt w.collected (length w.answers)) (record w { collected = w.collected + 1 }) w
  after w Shut = record w { shut = true }

  -- what the event is answered
  abbrev pub answer_to : WorldState M S Q A → Event M S Q A → Reply M S Q A
  answer_to w (Send q) = cond (is_spent w) (Unsent Spent q) (cond (is_full w) (Unsent Full q) (cond w.shut (Unsent Closed q) (Accepted (length w.accepted))))
  answer_to w Take = cond (nat_lt (length w.answers) w.taken) Held (cond (nat_lt w.taken (length w.accepted)) (Taken w.taken) (cond w.shut Settled Idle))
  answer_to w Finish = cond (w.taken == length w.answers) NoJob (Finished (length w.answers))
  answer_to w Collect = cond (nat_lt w.collected (length w.answers)) (Given w.collected) Nothing
  answer_to w Shut = Count (length w.accepted)

  -- the world after a list of events, and their replies
  abbrev pub after_all : WorldState M S Q A → List (Event M S Q A) → WorldState M S Q A
  after_all w [] = w
  after_all w (e ∷ es) = after_all (after w e) es

  -- the replies to events, one after another
  abbrev pub answers_to : WorldState M S Q A → List (Event M S Q A) → List (Reply M S Q A)
  answers_to w [] = []
  answers_to w (e ∷ es) = answer_to w e ∷ answers_to (after w e) es

  -- the counts are in order, and the answers and the state are those that the machine gives to the first requests
  pub record IsLawful (w : WorldState M S Q A) : Type 0 where
    pub gotten : w.collected ≤ length w.answers
    pub begun : length w.answers ≤ w.taken
    pub one : w.taken ≤ length w.answers + 1
    pub sent : w.taken ≤ length w.accepted
    pub spent : length w.accepted < 2 ^ 62
    pub room : length w.accepted ≤ w.collected + w.capacity
    pub answered : w.answers ≡ replies (next w.machine) (reply w.machine) w.start (take (length w.answers) w.accepted)
    pub reached : w.state ≡ state_after (next w.machine) (reply w.machine) w.start (take (length w.answers) w.accepted)

  -- some events happened, in order, each with its reply, and the others are left
  pub record Replayed (w : WorldState M S Q A) (es : List (Event M S Q A)) (rs : List (Reply M S Q A)) (w' : WorldState M S Q A) (left : List (Event M S Q A)) (rs' : List (Reply M S Q A)) : Type 0 where
    pub done : List (Event M S Q A)
    pub events : es ≡ done ++ left
    pub world : w' ≡ after_all w done
    pub replied : rs' ≡ rs ++ answers_to w done
