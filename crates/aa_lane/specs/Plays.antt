-- What each step of a lane tells the seat that makes it.
use Rattle.std.specs.Prelude.{◌≡◌, ℕ, zero, suc, ◌+◌, ◌/◌, ◌%◌, ◌≤◌, ◌==◌, nat_lt, Bool, true, false, ◌||◌, cond, List, [], ◌∷◌, ◌++◌, length, MatchBool, slice_get, Some}
use Rattle.atomic_table.specs.Table.{Me, Step, Act, keeps, takes, chain, rest}
use Rattle.aa_machine.specs.Run.{replies}
use Rattle.aa_lane.specs.Ends.{vacant}
use Rattle.aa_lane.specs.Log.{Happens}
use Rattle.aa_lane.specs.Shows.{log_of}
use Rattle.aa_lane.specs.declared.event.SendFault.TheVariants.{Closed}
use Rattle.aa_lane.specs.declared.event.Event.{Event}
use Rattle.aa_lane.specs.declared.event.Event.TheVariants.{Send, Take, Finish, Collect, Shut}
use Rattle.aa_lane.specs.declared.event.Reply.{Reply}
use Rattle.aa_lane.specs.declared.event.Reply.TheVariants.{Accepted, Unsent, Taken, Idle, Settled, Finished, Given, Nothing, Count}
use Rattle.aa_lane.specs.declared.cells.Cell.{Cell}
use Rattle.aa_lane.specs.declared.cells.Cell.TheVariants.{Vacant, Asked, Answered}
use Rattle.aa_lane.specs.declared.cells.View.{View}
use Rattle.aa_lane.specs.declared.cells.Who.{Who}
use Rattle.aa_lane.specs.declared.cells.Who.TheVariants.{ByOwner, ByServer, ByShutter}
use Rattle.aa_lane.specs.declared.cells.Entry.{Entry}

-- a seat with its view and what it holds
abbrev pub Seated : (M S Q A : Type 0) → Type 0
Seated M S Q A = Me (Cell M S Q A) (View M S Q A)

module _ {M S Q A : Type 0} where
  -- the views after each step; one that is an event leaves the log up to it
  abbrev pub ready_view : View M S Q A → View M S Q A
  ready_view v = record v { owner = record v.owner { ready = true } }

  -- the owner's view once a request was accepted
  abbrev pub sent_view : View M S Q A → Q → List (Entry M S Q A) → View M S Q A
  sent_view v q log = record v { owner = record v.owner { sent = v.owner.sent ++ q ∷ []; log = log } }

  -- the owner's view once it found the lane shut
  abbrev pub unsent_view : View M S Q A → List (Entry M S Q A) → View M S Q A
  unsent_view v log = record v { owner = record v.owner { closed = true; log = log } }

  -- the server's view once it took a request
  abbrev pub taken_view : View M S Q A → ℕ → Q → List (Entry M S Q A) → View M S Q A
  taken_view v n q log = record v { server = record v.server { taken = v.server.taken ++ q ∷ []; seen = n; log = log } }

  -- the server's view after a look that found no request
  abbrev pub idle_view : View M S Q A → ℕ → Bool → List (Entry M S Q A) → View M S Q A
  idle_view v n odd log = record v { server = record v.server { seen = n; settled = v.server.settled || odd; log = log } }

  -- the server's view once it answered a request
  abbrev pub finished_view : View M S Q A → List (Entry M S Q A) → View M S Q A
  finished_view v log = record v { server = record v.server { done = v.server.done + 1; log = log } }

  -- the owner's view once it collected an answer
  abbrev pub collected_view : View M S Q A → ℕ → List (Entry M S Q A) → View M S Q A
  collected_view v n log = record v { owner = record v.owner { got = v.owner.got + 1; found = n; log = log } }

  -- the owner's view after a look that found no answer
  abbrev pub uncollected_view : View M S Q A → ℕ → List (Entry M S Q A) → View M S Q A
  uncollected_view v n log = record v { owner = record v.owner { found = n; log = log } }

  -- the shutter's view once it has shut
  abbrev pub shut_view : View M S Q A → ℕ → List (Entry M S Q A) → View M S Q A
  shut_view v n log = record v { shutter = record v.shutter { count = Some n; log = log } }

  -- the owner's view once it has left
  abbrev pub left_view : View M S Q A → List (Entry M S Q A) → View M S Q A
  left_view v log = record v { owner = record v.owner { left = true; log = log } }

  -- a seat gives up a role, or keeps that role alone, and takes in what another seat knows in it
  abbrev pub without_server : View M S Q A → View M S Q A
  without_server v = record v { serves = false }

  -- the view that goes to the server
  abbrev pub only_server : View M S Q A → View M S Q A
  only_server v = record v { owns = false; shuts = false }

  -- the view with the server's joined to it
  abbrev pub with_server : View M S Q A → View M S Q A → View M S Q A
  with_server v u = record v { serves = true; server = u.server }

  -- the view that the shutter's was split from
  abbrev pub without_shutter : View M S Q A → View M S Q A
  without_shutter v = record v { shuts = false }

  -- the view that goes to the shutter
  abbrev pub only_shutter : View M S Q A → View M S Q A
  only_shutter v = record v { owns = false; serves = false }

  -- the view with the shutter's joined to it
  abbrev pub with_shutter : View M S Q A → View M S Q A → View M S Q A
  with_shutter v u = record v { shuts = true; shutter = u.shutter }

  -- the first n slots are taken, all empty, the last of them first
  abbrev pub take_slots : ℕ → Act (Cell M S Q A)
  take_slots zero = keeps
  take_slots (suc n) = chain (takes n Vacant) (take_slots n)

  -- the owner takes all slots
  abbrev pub readied : Step (Cell M S Q A) → Seated M S Q A → ℕ → Seated M S Q A → Type 0
  readied s m r m' = m' ≡ (ready_view m.0, vacant s.slots 0 s.slots)

  -- an owner that found the lane shut finds it so again
  abbrev pub StillClosed : View M S Q A → Bool → Type 0
  StillClosed v accepted = v.owner.closed ≡ true → accepted ≡ false

  -- a server that found the lane settled finds it so again
  abbrev pub StillSettled : View M S Q A → ℕ → Type 0
  StillSettled v r = v.server.settled ≡ true → (r / 2 ≤ v.server.done) × (r % 2 ≡ 1)

module _ {M S Q A : Type 0} (next : M → S → Q → S) (reply : M → S → Q → A) where
  -- the step is this event, by the terms that the seat knows
  abbrev pub Makes : ℕ → View M S Q A → Who → Event M S Q A → Reply M S Q A → View M S Q A → Type 0
  Makes slots v a e r v' = (m : M) (t : S) → v.terms ≡ Some (m, t) → Happens next reply m t slots a (log_of a v) e r (log_of a v')

  -- the request in the slot is accepted, or the lane was shut
  abbrev pub is_sent : Bool → ℕ → List (ℕ × Cell M S Q A) → Seated M S Q A → Seated M S Q A → Type 0
  is_sent accepted slots [] m m' = Unit {0}
  is_sent accepted slots ((k, Vacant) ∷ xs) m m' = Unit {0}
  is_sent accepted slots ((k, Asked q) ∷ xs) m m' = MatchBool accepted
      ((m' ≡ (sent_view m.0 q m'.0.owner.log, rest m.1)) × Makes slots m.0 ByOwner (Send q) (Accepted (length m.0.owner.sent)) m'.0)
      ((m' ≡ (unsent_view m.0 m'.0.owner.log, m.1)) × Makes slots m.0 ByOwner (Send q) (Unsent Closed q) m'.0)
  is_sent accepted slots ((k, Answered q a) ∷ xs) m m' = Unit {0}

  -- what a send leaves
  abbrev pub sent : Step (Cell M S Q A) → Seated M S Q A → ℕ → Seated M S Q A → Type 0
  sent s m r m' = is_sent (r == s.first) s.slots m.1 m m' × StillClosed m.0 (r == s.first)

  -- a load of the gate, which found n requests: the next one is taken, or there is none now, and then the lane may be settled
  abbrev pub is_taken : Bool → ℕ → ℕ → Bool → Seated M S Q A → Seated M S Q A → Type 0
  is_taken more slots n odd m m' = MatchBool more
      ((q : Q) × (m' ≡ (taken_view m.0 n q m'.0.server.log, (m.0.server.done % slots, Asked q) ∷ m.1)) × Makes slots m.0 ByServer Take (Taken m.0.server.done) m'.0)
      ((m' ≡ (idle_view m.0 n odd m'.0.server.log, m.1)) × Makes slots m.0 ByServer Take (cond odd Settled Idle) m'.0)

  -- what a take leaves
  abbrev pub took : Step (Cell M S Q A) → Seated M S Q A → ℕ → Seated M S Q A → Type 0
  took s m r m' = is_taken (nat_lt m.0.server.done (r / 2)) s.slots (r / 2) (r % 2 == 1) m m' × StillSettled m.0 r

  -- the answer in the slot is published
  abbrev pub finished : Step (Cell M S Q A) → Seated M S Q A → ℕ → Seated M S Q A → Type 0
  finished s m r m' = (m' ≡ (finished_view m.0 m'.0.server.log, rest m.1)) × Makes s.slots m.0 ByServer Finish (Finished m.0.server.done) m'.0

  -- the shutter is given the count, which is the one that it was given before
  abbrev pub shut_told : Step (Cell M S Q A) → Seated M S Q A → ℕ → Seated M S Q A → Type 0
  shut_told s m r m' = (m' ≡ (shut_view m.0 (r / 2) m'.0.shutter.log, m.1)) × ((c : ℕ) → m.0.shutter.count ≡ Some c → r / 2 ≡ c) × Makes s.slots m.0 ByShutter Shut (Count (r / 2)) m'.0

  -- the owner leaves
  abbrev pub exited : Step (Cell M S Q A) → Seated M S Q A → ℕ → Seated M S Q A → Type 0
  exited s m r m' = (m' ≡ (left_view m.0 m'.0.owner.log, m.1)) × Makes s.slots m.0 ByOwner Shut (Count (length m.0.owner.sent)) m'.0

  -- the request and the answer are those of number n, by the terms that the seat knows
  pub record Gives (v : View M S Q A) (n : ℕ) (q : Q) (a : A) : Type 0 where
    pub request : slice_get v.owner.sent n ≡ Some q
    pub answer : (m : M) (t : S) → v.terms ≡ Some (m, t) → slice_get (replies (next m) (reply m) t v.owner.sent) n ≡ Some a

  -- a load of the done word: the next answer is collected, or there is none now
  abbrev pub is_collected : Bool → ℕ → ℕ → Seated M S Q A → Seated M S Q A → Type 0
  is_collected more slots r m m' = MatchBool more
      ((q : Q) × (a : A) × Gives m.0 m.0.owner.got q a × (m' ≡ (collected_view m.0 r m'.0.owner.log, (m.0.owner.got % slots, Answered q a) ∷ m.1)) × Makes slots m.0 ByOwner Collect (Given m.0.owner.got) m'.0)
      ((m' ≡ (uncollected_view m.0 r m'.0.owner.log, m.1)) × Makes slots m.0 ByOwner Collect Nothing m'.0)

  -- what a collect leaves
  abbrev pub collected : Step (Cell M S Q A) → Seated M S Q A → ℕ → Seated M S Q A → Type 0
  collected s m r m' = is_collected (nat_lt m.0.owner.got r) s.slots r m m'
