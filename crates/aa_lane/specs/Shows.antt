-- The rule of a lane's table. Its words, views and slots show a world, which the events of a log leave, and each seat knows which events are its own.
-- Word 0 is the gate: twice the number of accepted requests, and 1 more once the lane is shut. Word 1 is the number of answers.
-- Request n uses the slot n modulo the capacity.
use Rattle.std.specs.Prelude.{◌≡◌, ℕ, ◌+◌, ◌*◌, ◌%◌, ◌<◌, ◌≤◌, Bool, true, false, ◌||◌, is_some, cond, List, [], length, take, slice_index, slice_get, Some, None}
use mathlib.Core.Option.{Option, some, none}
use lib.ListN.{get_elem?}
use Rattle.atomic_table.specs.Table.{State}
use Rattle.aa_lane.specs.WorldState.{WorldState, IsLawful, IsSettled}
use Rattle.aa_lane.specs.Log.{GoesOn, leaves, IsLog}
use Rattle.aa_lane.specs.declared.cells.Who.{Who}
use Rattle.aa_lane.specs.declared.cells.Who.TheVariants.{ByOwner, ByServer, ByShutter}
use Rattle.aa_lane.specs.declared.cells.Entry.{Entry}
use Rattle.aa_lane.specs.declared.cells.Cell.{Cell}
use Rattle.aa_lane.specs.declared.cells.Cell.TheVariants.{Vacant, Asked, Answered}
use Rattle.aa_lane.specs.declared.cells.OwnerNotes.{OwnerNotes}
use Rattle.aa_lane.specs.declared.cells.ServerNotes.{ServerNotes}
use Rattle.aa_lane.specs.declared.cells.ShutterNotes.{ShutterNotes}
use Rattle.aa_lane.specs.declared.cells.View.{View}
use Rattle.aa_lane.specs.declared.cells.Key.{Key}

-- 1 for true, 0 for false
abbrev pub bit : Bool → ℕ
bit b = cond b 1 0

module _ {M S Q A : Type 0} where
  -- the notes of an owner that isn't there
  abbrev pub no_owner : OwnerNotes M S Q A
  no_owner = record { ready = false; sent = []; got = 0; found = 0; closed = false; left = false; log = [] }

  -- the notes of a server that isn't there
  abbrev pub no_server : ServerNotes M S Q A
  no_server = record { taken = []; done = 0; seen = 0; settled = false; log = [] }

  -- the notes of a shutter that isn't there
  abbrev pub no_shutter : ShutterNotes M S Q A
  no_shutter = record { count = None; log = [] }

  -- the first seat is owner, server and shutter
  abbrev pub first_view : Key M S Q A → View M S Q A
  first_view k = record { terms = Some (k.machine.now, k.start); owns = true; owner = no_owner; serves = true; server = no_server; shuts = true; shutter = no_shutter }

  -- a seat that was joined to another one
  abbrev pub spent_view : View M S Q A
  spent_view = record { terms = None; owns = false; owner = no_owner; serves = false; server = no_server; shuts = false; shutter = no_shutter }

  -- the view is that seat's
  abbrev pub role : Who → View M S Q A → Bool
  role ByOwner v = v.owns
  role ByServer v = v.serves
  role ByShutter v = v.shuts

  -- the log up to the last event that the seat made in a role
  abbrev pub log_of : Who → View M S Q A → List (Entry M S Q A)
  log_of ByOwner v = v.owner.log
  log_of ByServer v = v.server.log
  log_of ByShutter v = v.shutter.log

  -- the owner knows what was accepted and collected
  pub record OwnerFits (homes : List (Option (Cell M S Q A))) (w : WorldState M S Q A) (n : OwnerNotes M S Q A) : Type 0 where
    pub sent : n.sent ≡ w.accepted
    pub got : n.got ≡ w.collected
    pub found : n.found ≤ length w.answers
    pub closed : n.closed ≡ true → w.shut ≡ true
    pub left : n.left ≡ true → w.shut ≡ true
    -- before it takes the slots they are all at home, and then each that no request uses is out with it
    pub free : n.ready ≡ true → (i : ℕ) → length w.accepted ≤ i → i < w.collected + w.capacity → get_elem? homes (i % length homes) ≡ some none
    pub fresh : n.ready ≡ false → (length w.accepted ≡ 0) × ((i : ℕ) → i < length homes → get_elem? homes i ≡ some (some Vacant))

  -- the server knows what was taken and answered
  pub record ServerFits (w : WorldState M S Q A) (n : ServerNotes M S Q A) : Type 0 where
    pub taken : n.taken ≡ take w.taken w.accepted
    pub done : n.done ≡ length w.answers
    pub seen : n.seen ≤ length w.accepted
    pub settled : n.settled ≡ true → IsSettled w

  -- the count that the shutter was given is that of all accepted requests
  pub record ShutterFits (w : WorldState M S Q A) (n : ShutterNotes M S Q A) : Type 0 where
    pub count : (c : ℕ) → n.count ≡ Some c → (w.shut ≡ true) × (c ≡ length w.accepted)

  -- the notes of a seat fit the lane's world
  abbrev pub Fits : Who → List (Option (Cell M S Q A)) → WorldState M S Q A → View M S Q A → Type 0
  Fits ByOwner homes w v = OwnerFits homes w v.owner
  Fits ByServer homes w v = ServerFits w v.server
  Fits ByShutter homes w v = ShutterFits w v.shutter

  -- one seat at most has each role, and its view fits the world
  abbrev pub Seats : List (View M S Q A) → (Who → ℕ) → List (Option (Cell M S Q A)) → WorldState M S Q A → Type 0
  Seats views seat homes w = (a : Who) (j : ℕ) (v : View M S Q A) → get_elem? views j ≡ some v → role a v ≡ true → (j ≡ seat a) × (v.terms ≡ Some (w.machine, w.start)) × Fits a homes w v

  -- some seat has each role
  abbrev pub Filled : List (View M S Q A) → (Who → ℕ) → Type 0
  Filled views seat = (a : Who) → (v : View M S Q A) × (get_elem? views (seat a) ≡ some v) × (role a v ≡ true)

  -- where the lane is shut, its owner has left or its shutter has a count; where an owner was told so, it hadn't left, and its shutter has a count
  pub record ShutBy (views : List (View M S Q A)) (shut : Bool) : Type 0 where
    pub either : shut ≡ true → (j k : ℕ) (o u : View M S Q A) → get_elem? views j ≡ some o → o.owns ≡ true → get_elem? views k ≡ some u → u.shuts ≡ true → (o.owner.left || is_some u.shutter.count) ≡ true
    pub closed : (j k : ℕ) (o u : View M S Q A) → get_elem? views j ≡ some o → o.owns ≡ true → get_elem? views k ≡ some u → u.shuts ≡ true → o.owner.closed ≡ true → is_some u.shutter.count ≡ true

  -- the log goes on from what each seat has seen of it, by other seats' doing
  abbrev pub HasSeen : List (View M S Q A) → List (Entry M S Q A) → Type 0
  HasSeen views log = (a : Who) (j : ℕ) (v : View M S Q A) → get_elem? views j ≡ some v → role a v ≡ true → GoesOn a (log_of a v) log

module _ {M S Q A : Type 0} (next : M → S → Q → S) (reply : M → S → Q → A) where
  -- words, slots and views show the world
  pub record Shows (s : State (Cell M S Q A) (View M S Q A)) (w : WorldState M S Q A) : Type 0 where
    pub lawful : IsLawful next reply w
    pub capacity : w.capacity ≡ length s.homes
    pub roomy : 0 < length s.homes
    pub wide : length s.words ≡ 17
    pub gate : slice_index s.words 0 ≡ 2 * length w.accepted + bit w.shut
    pub done : slice_index s.words 16 ≡ length w.answers
    pub waiting : (n : ℕ) (q : Q) → w.taken ≤ n → slice_get w.accepted n ≡ Some q → get_elem? s.homes (n % length s.homes) ≡ some (some (Asked q))
    pub answered : (n : ℕ) (q : Q) (a : A) → w.collected ≤ n → slice_get w.accepted n ≡ Some q → slice_get w.answers n ≡ Some a → get_elem? s.homes (n % length s.homes) ≡ some (some (Answered q a))
    -- that of the request in hand is out with the server
    pub in_hand : (n : ℕ) → length w.answers ≤ n → n < w.taken → get_elem? s.homes (n % length s.homes) ≡ some none
    pub seat : Who → ℕ
    pub seats : Seats s.views seat s.homes w
    pub filled : Filled s.views seat
    pub shut_by : ShutBy s.views w.shut

  -- some log leaves the world that is shown, and each seat has seen it up to the last event of its own
  pub record HasLog (k : Key M S Q A) (s : State (Cell M S Q A) (View M S Q A)) : Type 0 where
    pub log : List (Entry M S Q A)
    pub is : IsLog next reply k.machine.now k.start k.capacity log
    pub shows : Shows s (leaves next reply k.machine.now k.start k.capacity log)
    pub seen : HasSeen s.views log
