-- The log of a lane: who made which event, and what it was answered.
use Rattle.std.specs.Prelude.{◌≡◌, ℕ, ◌==◌, Bool, true, not, cond, List, [], ◌∷◌, ◌++◌, All}
use Rattle.aa_lane.specs.WorldState.{WorldState, opening, after_all, answer_to, answers_to}
use Rattle.aa_lane.specs.declared.event.Event.{Event}
use Rattle.aa_lane.specs.declared.event.Event.TheVariants.{Send, Take, Finish, Collect, Shut}
use Rattle.aa_lane.specs.declared.event.Reply.{Reply}
use Rattle.aa_lane.specs.declared.cells.Who.{Who}
use Rattle.aa_lane.specs.declared.cells.Who.TheVariants.{ByOwner, ByServer, ByShutter}
use Rattle.aa_lane.specs.declared.cells.Entry.{Entry}

-- a number for each seat
abbrev pub rank : Who → ℕ
rank ByOwner = 0
rank ByServer = 1
rank ByShutter = 2

-- both are one seat
abbrev pub same : Who → Who → Bool
same a b = rank a == rank b

module _ {M S Q A : Type 0} where
  -- the events of a log
  abbrev pub events : List (Entry M S Q A) → List (Event M S Q A)
  events [] = []
  events (e ∷ es) = e.event ∷ events es

  -- the replies of a log
  abbrev pub replied : List (Entry M S Q A) → List (Reply M S Q A)
  replied [] = []
  replied (e ∷ es) = e.reply ∷ replied es

  -- what one of the ends made, in order
  abbrev pub by : Who → List (Entry M S Q A) → List (Event M S Q A × Reply M S Q A)
  by a [] = []
  by a (e ∷ es) = cond (same a e.who) ((e.event, e.reply) ∷ by a es) (by a es)

  -- the owner sends, collects and shuts, the server takes and finishes, the shutter shuts
  abbrev pub may_make : Who → Event M S Q A → Bool
  may_make a (Send q) = same a ByOwner
  may_make a Take = same a ByServer
  may_make a Finish = same a ByServer
  may_make a Collect = same a ByOwner
  may_make a Shut = not (same a ByServer)

  -- a log goes on from what an end has seen of it, and all that came after is by others
  pub record GoesOn (a : Who) (seen log : List (Entry M S Q A)) : Type 0 where
    pub more : List (Entry M S Q A)
    pub is : log ≡ seen ++ more
    pub others : by a more ≡ []

module _ {M S Q A : Type 0} (next : M → S → Q → S) (reply : M → S → Q → A) where
  -- the world that the log leaves
  abbrev pub leaves : M → S → ℕ → List (Entry M S Q A) → WorldState M S Q A
  leaves m s c log = after_all next reply (opening m s c) (events log)

  -- each reply is the world's
  abbrev pub Told : M → S → ℕ → List (Entry M S Q A) → Type 0
  Told m s c log = replied log ≡ answers_to next reply (opening m s c) (events log)

  -- a lane of this machine, opening state and capacity has this log: each reply is the world's, and each event is one that its end may make
  pub record IsLog (m : M) (s : S) (c : ℕ) (log : List (Entry M S Q A)) : Type 0 where
    pub told : Told m s c log
    pub able : All (λ e. may_make e.who e.event ≡ true) log

  -- an end that has seen the log up to `before` makes this event happen: the lane's log goes on from there, the world that it leaves gives this reply,
  -- and with this entry more it is what the end has seen now
  pub record Happens (m : M) (s : S) (c : ℕ) (a : Who) (before : List (Entry M S Q A)) (e : Event M S Q A) (r : Reply M S Q A) (now : List (Entry M S Q A)) : Type 0 where
    pub log : List (Entry M S Q A)
    pub is : IsLog m s c log
    pub goes_on : GoesOn a before log
    pub replies : r ≡ answer_to next reply (leaves m s c log) e
    pub seen : now ≡ log ++ record { who = a; event = e; reply = r } ∷ []

  -- what such an event does to the log that an end has seen
  pub record LogLaws : Type 0 where
    -- it begins with all that the end had seen before, so the end's events stand in it in the order of its calls
    pub begins : (m : M) (s : S) (c : ℕ) (a : Who) (before now : List (Entry M S Q A)) (e : Event M S Q A) (r : Reply M S Q A) → Happens m s c a before e r now → (more : List (Entry M S Q A)) × (now ≡ before ++ more)
    -- the event stands in it once more, with its reply, and no other one of that end's
    pub once : (m : M) (s : S) (c : ℕ) (a : Who) (before now : List (Entry M S Q A)) (e : Event M S Q A) (r : Reply M S Q A) → Happens m s c a before e r now → by a now ≡ by a before ++ (e, r) ∷ []
    -- it is a log of the lane again, where the end may make the event
    pub stays : (m : M) (s : S) (c : ℕ) (a : Who) (before now : List (Entry M S Q A)) (e : Event M S Q A) (r : Reply M S Q A) → Happens m s c a before e r now → may_make a e ≡ true → IsLog m s c now
    -- a log that goes on from what an end has seen has just the events of that end that the end has seen
    pub all : (a : Who) (seen log : List (Entry M S Q A)) → GoesOn a seen log → by a log ≡ by a seen
