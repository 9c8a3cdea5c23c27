-- What clauses see of a lane and its ends.
use Rattle.std.specs.Prelude.{◌≡◌, ℕ, ◌+◌, ◌-◌, ◌%◌, ◌<◌, ◌≤◌, ◌^◌, ◌⊎◌, zero, suc, Bool, true, false, Option, None, List, [], ◌∷◌, length}
use Rattle.std.specs.Prelude.{take, slice_get, Some}
use Rattle.atomic_table.specs.Seated.{TableId}
use Rattle.aa_machine.specs.Run.{state_after}
use Rattle.aa_lane.specs.WorldState.{most_accepted}
use Rattle.aa_lane.specs.declared.cells.Cell.{Cell}
use Rattle.aa_lane.specs.declared.cells.Cell.TheVariants.{Vacant}
use Rattle.aa_lane.specs.declared.cells.View.{View}
use Rattle.aa_lane.specs.declared.event.LaneFault.{LaneFault}
use Rattle.aa_lane.specs.declared.event.LaneFault.TheVariants.{NoMemory, BadCapacity}
use Rattle.aa_lane.specs.declared.event.SendFault.{SendFault}
use Rattle.aa_lane.specs.declared.event.SendFault.TheVariants.{Spent, Full, Closed}
use Rattle.aa_lane.specs.declared.cells.Entry.{Entry}

-- which lane an end is of, and its terms: the machine and the opening state. Its capacity is the number of its table's slots.
pub record LaneId (M S : Type 0) : Type 0 where
  pub table : TableId
  pub terms : Option (M × S)
  pub tag : ℕ

-- a lane as contracts see it: its table, its machine, its opening state, its tag
pub record LaneSeen (M S : Type 0) : Type 0 where
  pub table : TableId
  pub machine : M
  pub start : S
  pub tag : ℕ

-- the lane as its ends know it
abbrev pub known : {M S : Type 0} → LaneSeen M S → LaneId M S
known l = record { table = l.table; terms = Some (l.machine, l.start); tag = l.tag }

-- an owner: its lane, what it sent, how many answers it has, how many its last look found, whether it found the lane shut, whether it has left, and the log of the lane up to its last event
pub record OwnerSeen (M S Q A : Type 0) : Type 0 where
  pub lane : LaneId M S
  pub sent : List Q
  pub got : ℕ
  pub found : ℕ
  pub closed : Bool
  pub left : Bool
  pub log : List (Entry M S Q A)

-- a server: its lane, the requests that it took, how many it answered, how many requests its last look found, whether it found the lane settled, and the log of the lane up to its last event
pub record ServerSeen (M S Q A : Type 0) : Type 0 where
  pub lane : LaneId M S
  pub taken : List Q
  pub done : ℕ
  pub seen : ℕ
  pub settled : Bool
  pub log : List (Entry M S Q A)

-- a shutter: its lane, the count that it was given, and the log of the lane up to its last event
pub record ShutterSeen (M S Q A : Type 0) : Type 0 where
  pub lane : LaneId M S
  pub count : Option ℕ
  pub log : List (Entry M S Q A)

module _ {M S Q A : Type 0} where
  -- n slots from that of request `from` on, all empty
  abbrev pub vacant : ℕ → ℕ → ℕ → List (ℕ × Cell M S Q A)
  vacant c from zero = []
  vacant c from (suc n) = (from % c, Vacant) ∷ vacant c (suc from) n

  -- the lane of a seat's view
  abbrev pub lane_of : TableId → View M S Q A → ℕ → LaneId M S
  lane_of z v t = record { table = z; terms = v.terms; tag = t }

  -- the owner of a seat's view
  abbrev pub owner_seen : TableId → View M S Q A → ℕ → OwnerSeen M S Q A
  owner_seen z v t = record { lane = lane_of z v t; sent = v.owner.sent; got = v.owner.got; found = v.owner.found; closed = v.owner.closed; left = v.owner.left; log = v.owner.log }

  -- the server of a seat's view
  abbrev pub server_seen : TableId → View M S Q A → ℕ → ServerSeen M S Q A
  server_seen z v t = record { lane = lane_of z v t; taken = v.server.taken; done = v.server.done; seen = v.server.seen; settled = v.server.settled; log = v.server.log }

  -- the shutter of a seat's view
  abbrev pub shutter_seen : TableId → View M S Q A → ℕ → ShutterSeen M S Q A
  shutter_seen z v t = record { lane = lane_of z v t; count = v.shutter.count; log = v.shutter.log }

  -- the seat z with the view v and the slots held is an owner's, whose counts are sent and got
  pub record OwnerOk (z : TableId) (v : View M S Q A) (held : List (ℕ × Cell M S Q A)) (sent got : ℕ) : Type 0 where
    pub owns : v.owns ≡ true
    pub ready : v.owner.ready ≡ true
    pub words : z.words ≡ 17
    pub roomy : 0 < z.slots
    pub small : z.slots ≤ 1024
    pub sent_is : sent ≡ length v.owner.sent
    pub got_is : got ≡ v.owner.got
    pub gotten : got ≤ sent
    pub room : sent ≤ got + z.slots
    pub spent : sent < 2 ^ 62
    pub held_is : held ≡ vacant z.slots sent ((got + z.slots) - sent)

  -- the seat z is a shutter's
  pub record ShutterOk (z : TableId) (v : View M S Q A) (held : List (ℕ × Cell M S Q A)) : Type 0 where
    pub shuts : v.shuts ≡ true
    pub alone : (v.owns ≡ false) × (v.serves ≡ false)
    pub words : z.words ≡ 17
    pub held_is : held ≡ []

-- a server with a request in hand
pub record BusySeen (M S Q A : Type 0) : Type 0 where
  pub server : ServerSeen M S Q A
  pub request : Q

module _ {M S Q A : Type 0} (next : M → S → Q → S) (reply : M → S → Q → A) where
  -- the seat z is a server's that has answered all that it took, and this is the state that they leave
  pub record ServerOk (z : TableId) (v : View M S Q A) (held : List (ℕ × Cell M S Q A)) (done : ℕ) (state : S) : Type 0 where
    pub serves : v.serves ≡ true
    pub alone : (v.owns ≡ false) × (v.shuts ≡ false)
    pub words : z.words ≡ 17
    pub roomy : 0 < z.slots
    pub done_is : v.server.done ≡ done
    pub small : done ≤ 2 ^ 63
    pub idle : length v.server.taken ≡ done
    pub state_is : (m : M) (t : S) → v.terms ≡ Some (m, t) → state ≡ state_after (next m) (reply m) t v.server.taken
    pub held_is : held ≡ []

  -- the seat z is a server's with one request in hand
  pub record BusyOk (z : TableId) (v : View M S Q A) (held : List (ℕ × Cell M S Q A)) (done : ℕ) (state : S) (q : Q) : Type 0 where
    pub serves : v.serves ≡ true
    pub alone : (v.owns ≡ false) × (v.shuts ≡ false)
    pub words : z.words ≡ 17
    pub roomy : 0 < z.slots
    pub done_is : v.server.done ≡ done
    pub small : done < 2 ^ 63
    pub busy : length v.server.taken ≡ done + 1
    pub job : slice_get v.server.taken done ≡ Some q
    pub state_is : (m : M) (t : S) → v.terms ≡ Some (m, t) → state ≡ state_after (next m) (reply m) t (take done v.server.taken)
    pub held_is : held ≡ (done % z.slots, Vacant) ∷ []

-- a lane may have so many slots
abbrev pub IsCapacity : ℕ → Type 0
IsCapacity c = (0 < c) × (c ≤ 1024)

-- a lane of this capacity isn't made for this cause
abbrev pub Denies : LaneFault → ℕ → Type 0
Denies NoMemory c = IsCapacity c
Denies BadCapacity c = (c ≡ 0) ⊎ (1024 < c)

module _ {M S Q A : Type 0} where
  -- a lane's owner before its first call
  abbrev pub new_owner : LaneSeen M S → OwnerSeen M S Q A
  new_owner l = record { lane = known l; sent = []; got = 0; found = 0; closed = false; left = false; log = [] }

  -- a lane's server before its first call
  abbrev pub new_server : LaneSeen M S → ServerSeen M S Q A
  new_server l = record { lane = known l; taken = []; done = 0; seen = 0; settled = false; log = [] }

  -- a lane's shutter before its first call
  abbrev pub new_shutter : LaneSeen M S → ShutterSeen M S Q A
  new_shutter l = record { lane = known l; count = None; log = [] }

  -- its own counts let the owner send
  abbrev pub MaySend : OwnerSeen M S Q A → Type 0
  MaySend o = (length o.sent < most_accepted) × (length o.sent < o.got + o.lane.table.slots)

  -- why a request was not accepted, and the owner after it
  abbrev pub Refuses : SendFault → Q → OwnerSeen M S Q A → OwnerSeen M S Q A → Type 0
  Refuses Spent q o o' = (length o.sent ≡ most_accepted) × (o' ≡ o)
  Refuses Full q o o' = (length o.sent < most_accepted) × (length o.sent ≡ o.got + o.lane.table.slots) × (o' ≡ o)
  Refuses Closed q o o' = MaySend o × (o' ≡ record o { closed = true; log = o'.log })
