-- Each step at a lane is an event of the world that the table shows, or leaves that world as it is.
use Rattle.std.specs.Prelude.{◌≡◌, ◌≢◌, ℕ, ◌+◌, ◌*◌, ◌/◌, ◌%◌, ◌<◌, ◌≤◌, ◌==◌, true, false, cond, List, []}
use Rattle.std.specs.Prelude.{◌∷◌, length, take, slice_index, slice_get, slice_set, ◌++◌, replicate, Some, is_some, bit_or}
use mathlib.Core.Option.{some}
use lib.ListN.{get_elem?}
use Rattle.atomic_table.specs.Table.{State, keeps, takes, gives, stepped, Valid, opening as table_opening}
use Rattle.aa_lane.specs.WorldState.{WorldState, most_accepted, opening, after, answer_to}
use Rattle.aa_machine.specs.Run.{state_after}
use Rattle.aa_lane.specs.Shows.{Shows, HasLog, first_view, spent_view}
use Rattle.aa_lane.specs.Plays.{ready_view, take_slots, without_server, only_server, with_server, without_shutter, only_shutter, with_shutter, sent_view}
use Rattle.aa_lane.specs.Plays.{unsent_view, taken_view, idle_view, finished_view, collected_view, uncollected_view, shut_view, left_view}
use Rattle.aa_lane.specs.declared.event.SendFault.TheVariants.{Closed}
use Rattle.aa_lane.specs.declared.event.Event.{Event}
use Rattle.aa_lane.specs.declared.event.Event.TheVariants.{Send, Take, Finish, Collect, Shut}
use Rattle.aa_lane.specs.declared.event.Reply.{Reply}
use Rattle.aa_lane.specs.declared.event.Reply.TheVariants.{Accepted, Unsent, Taken, Idle, Settled, Finished, Given, Nothing, Count}
use Rattle.aa_lane.specs.declared.cells.Cell.{Cell}
use Rattle.aa_lane.specs.declared.cells.Cell.TheVariants.{Vacant, Asked, Answered}
use Rattle.aa_lane.specs.declared.cells.View.{View}
use Rattle.aa_lane.specs.declared.cells.Entry.{Entry}
use Rattle.aa_lane.specs.declared.cells.Key.{Key}

module _ {M S Q A : Type 0} (next : M → S → Q → S) (reply : M → S → Q → A) where
  -- the table shows the world after the event, and the reply is the world's
  pub record IsEvent (s : State (Cell M S Q A) (View M S Q A)) (w : WorldState M S Q A) (e : Event M S Q A) (r : Reply M S Q A) : Type 0 where
    pub shows : Shows next reply s (after next reply w e)
    pub replied : r ≡ answer_to next reply w e

  -- a table that shows a world, and the seat that steps
  pub record Stands (s : State (Cell M S Q A) (View M S Q A)) (w : WorldState M S Q A) (id : ℕ) (v : View M S Q A) : Type 0 where
    pub shows : Shows next reply s w
    pub at : get_elem? s.views id ≡ some v

  -- whatever log the seat has then seen, of which these rows say nothing
  pub record StepsAreEvents : Type 0 where
    -- a table shows one world at most
    pub one : (s : State (Cell M S Q A) (View M S Q A)) (w w' : WorldState M S Q A) → Shows next reply s w → Shows next reply s w' → w ≡ w'
    -- the table as it is made shows the opening world
    pub opens : (k : Key M S Q A) → 0 < k.capacity → Shows next reply (table_opening (replicate 17 0) (replicate k.capacity Vacant) (first_view k)) (opening k.machine.now k.start k.capacity)
    -- the load at which the owner takes all slots
    pub readies : (s : State (Cell M S Q A) (View M S Q A)) (w : WorldState M S Q A) (id : ℕ) (v : View M S Q A) → Stands s w id v → v.owns ≡ true → v.owner.ready ≡ false
        → Valid s.homes [] (take_slots (length s.homes)) × Shows next reply (stepped s 0 (slice_index s.words 0) id [] (ready_view v) (take_slots (length s.homes))) w
    -- the two splits
    pub splits_server : (s : State (Cell M S Q A) (View M S Q A)) (w : WorldState M S Q A) (id : ℕ) (v : View M S Q A) → Stands s w id v → v.serves ≡ true
        → Shows next reply record { words = s.words; homes = s.homes; views = slice_set s.views id (without_server v) ++ only_server v ∷ [] } w
    pub splits_shutter : (s : State (Cell M S Q A) (View M S Q A)) (w : WorldState M S Q A) (id : ℕ) (v : View M S Q A) → Stands s w id v → v.shuts ≡ true
        → Shows next reply record { words = s.words; homes = s.homes; views = slice_set s.views id (without_shutter v) ++ only_shutter v ∷ [] } w
    -- the owner's try to send, with the request in the slot: the gate was what it thinks, or the lane was shut
    pub sends : (s : State (Cell M S Q A) (View M S Q A)) (w : WorldState M S Q A) (id : ℕ) (v : View M S Q A) (log : List (Entry M S Q A)) (q : Q)
        (held : List (ℕ × Cell M S Q A)) → Stands s w id v → v.owns ≡ true → v.owner.ready ≡ true
        → length v.owner.sent ≢ most_accepted → v.owner.got ≤ length v.owner.sent → length v.owner.sent < v.owner.got + length s.homes → slice_index s.words 0 ≡ 2 * length v.owner.sent
        → IsEvent (stepped s 0 (2 * length v.owner.sent + 2) id ((length v.owner.sent % length s.homes, Asked q) ∷ held) (sent_view v q log) gives) w (Send q) (Accepted (length v.owner.sent))
    pub closed : (s : State (Cell M S Q A) (View M S Q A)) (w : WorldState M S Q A) (id : ℕ) (v : View M S Q A) (log : List (Entry M S Q A)) (q : Q)
        (held : List (ℕ × Cell M S Q A)) → Stands s w id v → v.owns ≡ true → v.owner.left ≡ false → v.owner.ready ≡ true
        → length v.owner.sent ≢ most_accepted → v.owner.got ≤ length v.owner.sent → length v.owner.sent < v.owner.got + length s.homes → slice_index s.words 0 ≢ 2 * length v.owner.sent
        → IsEvent (stepped s 0 (slice_index s.words 0) id ((length v.owner.sent % length s.homes, Asked q) ∷ held) (unsent_view v log) keeps) w (Send q) (Unsent Closed q)
    -- the server's load of the gate
    pub takes_one : (s : State (Cell M S Q A) (View M S Q A)) (w : WorldState M S Q A) (id : ℕ) (v : View M S Q A) (log : List (Entry M S Q A))
        → Stands s w id v → v.serves ≡ true → length v.server.taken ≡ v.server.done → v.server.done < slice_index s.words 0 / 2
        → (q : Q) × (get_elem? s.homes (v.server.done % length s.homes) ≡ some (some (Asked q)))
        × IsEvent (stepped s 0 (slice_index s.words 0) id [] (taken_view v (slice_index s.words 0 / 2) q log) (takes (v.server.done % length s.homes) (Asked q))) w Take (Taken v.server.done)
    pub takes_none : (s : State (Cell M S Q A) (View M S Q A)) (w : WorldState M S Q A) (id : ℕ) (v : View M S Q A) (log : List (Entry M S Q A))
        → Stands s w id v → v.serves ≡ true → length v.server.taken ≡ v.server.done → slice_index s.words 0 / 2 ≤ v.server.done
        → IsEvent (stepped s 0 (slice_index s.words 0) id [] (idle_view v (slice_index s.words 0 / 2) (slice_index s.words 0 % 2 == 1) log) keeps) w Take (cond (slice_index s.words 0 % 2 == 1) Settled Idle)
    -- the server's store of the done word, with the answer in the slot
    pub finishes : (s : State (Cell M S Q A) (View M S Q A)) (w : WorldState M S Q A) (id : ℕ) (v : View M S Q A) (log : List (Entry M S Q A)) (q : Q)
        (a : A) → Stands s w id v → v.serves ≡ true → length v.server.taken ≡ v.server.done + 1 → slice_get v.server.taken v.server.done ≡ Some q
        → ((m : M) (t : S) → v.terms ≡ Some (m, t) → a ≡ reply m (state_after (next m) (reply m) t (take v.server.done v.server.taken)) q)
        → IsEvent (stepped s 16 (v.server.done + 1) id ((v.server.done % length s.homes, Answered q a) ∷ []) (finished_view v log) gives) w Finish (Finished v.server.done)
    -- the owner's load of the done word
    pub collects_one : (s : State (Cell M S Q A) (View M S Q A)) (w : WorldState M S Q A) (id : ℕ) (v : View M S Q A) (log : List (Entry M S Q A))
        (held : List (ℕ × Cell M S Q A)) → Stands s w id v → v.owns ≡ true → v.owner.ready ≡ true → v.owner.got < slice_index s.words 16
        → (q : Q) × (a : A) × (get_elem? s.homes (v.owner.got % length s.homes) ≡ some (some (Answered q a)))
        × IsEvent (stepped s 16 (slice_index s.words 16) id held (collected_view v (slice_index s.words 16) log) (takes (v.owner.got % length s.homes) (Answered q a))) w Collect (Given v.owner.got)
    pub collects_none : (s : State (Cell M S Q A) (View M S Q A)) (w : WorldState M S Q A) (id : ℕ) (v : View M S Q A) (log : List (Entry M S Q A))
        (held : List (ℕ × Cell M S Q A)) → Stands s w id v → v.owns ≡ true → v.owner.ready ≡ true → slice_index s.words 16 ≤ v.owner.got
        → IsEvent (stepped s 16 (slice_index s.words 16) id held (uncollected_view v (slice_index s.words 16) log) keeps) w Collect Nothing
    -- the two ways to shut
    pub shuts : (s : State (Cell M S Q A) (View M S Q A)) (w : WorldState M S Q A) (id : ℕ) (v : View M S Q A) (log : List (Entry M S Q A)) (held : List (ℕ × Cell M S Q A)) → Stands s w id v → v.shuts ≡ true
        → IsEvent (stepped s 0 (bit_or (slice_index s.words 0) 1) id held (shut_view v (slice_index s.words 0 / 2) log) keeps) w Shut (Count (slice_index s.words 0 / 2))
    pub exits : (s : State (Cell M S Q A) (View M S Q A)) (w : WorldState M S Q A) (id : ℕ) (v : View M S Q A) (log : List (Entry M S Q A)) (held : List (ℕ × Cell M S Q A)) → Stands s w id v → v.owns ≡ true
        → IsEvent (stepped s 0 (bit_or (slice_index s.words 0) 1) id held (left_view v log) keeps) w Shut (Count (length v.owner.sent))
    -- the two joins
    pub joins_server : (s : State (Cell M S Q A) (View M S Q A)) (w : WorldState M S Q A) (id : ℕ) (v : View M S Q A) (other : ℕ) (u : View M S Q A)
        → Stands s w id v → get_elem? s.views other ≡ some u → other ≢ id → v.owns ≡ true → u.serves ≡ true
        → (u.owns ≡ false) × (u.shuts ≡ false)
        → Shows next reply record { words = s.words; homes = s.homes; views = slice_set (slice_set s.views id (with_server v u)) other spent_view } w
    pub joins_shutter : (s : State (Cell M S Q A) (View M S Q A)) (w : WorldState M S Q A) (id : ℕ) (v : View M S Q A) (other : ℕ) (u : View M S Q A)
        → Stands s w id v → get_elem? s.views other ≡ some u → other ≢ id → v.owns ≡ true → u.shuts ≡ true
        → (u.owns ≡ false) × (u.serves ≡ false)
        → Shows next reply record { words = s.words; homes = s.homes; views = slice_set (slice_set s.views id (with_shutter v u)) other spent_view } w

  -- what the seats of a table have noted is so
  pub record NotesHold (s : State (Cell M S Q A) (View M S Q A)) : Type 0 where
    -- an owner that found the lane shut, or has left it: the gate is shut
    pub closed : (j : ℕ) (v : View M S Q A) → get_elem? s.views j ≡ some v → v.owns ≡ true → v.owner.closed ≡ true → slice_index s.words 0 % 2 ≡ 1
    pub left : (j : ℕ) (v : View M S Q A) → get_elem? s.views j ≡ some v → v.owns ≡ true → v.owner.left ≡ true → slice_index s.words 0 ≡ 2 * length v.owner.sent + 1
    -- where an owner was told so, there is a shutter's seat, and each has a count
    pub closed_by : (j k : ℕ) (o u : View M S Q A) → get_elem? s.views j ≡ some o → o.owns ≡ true → o.owner.closed ≡ true → get_elem? s.views k ≡ some u → u.shuts ≡ true → is_some u.shutter.count ≡ true
    -- a shutter that was given a count: the gate is shut, and counts so many
    pub counted : (j c : ℕ) (v : View M S Q A) → get_elem? s.views j ≡ some v → v.shuts ≡ true → v.shutter.count ≡ Some c → slice_index s.words 0 ≡ 2 * c + 1
    -- a server that found the lane settled: the gate is shut, and counts as many as are answered
    pub settled : (j : ℕ) (v : View M S Q A) → get_elem? s.views j ≡ some v → v.serves ≡ true → v.server.settled ≡ true → slice_index s.words 0 ≡ 2 * slice_index s.words 16 + 1
    -- no load found more than is there
    pub found : (j : ℕ) (v : View M S Q A) → get_elem? s.views j ≡ some v → v.owns ≡ true → v.owner.found ≤ slice_index s.words 16
    pub seen : (j : ℕ) (v : View M S Q A) → get_elem? s.views j ≡ some v → v.serves ≡ true → v.server.seen ≤ slice_index s.words 0 / 2

  -- in every state that a lane's table can have
  abbrev pub NotesStayTrue : Type 0
  NotesStayTrue = (k : Key M S Q A) (s : State (Cell M S Q A) (View M S Q A)) → HasLog next reply k s → NotesHold s
