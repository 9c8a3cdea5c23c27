-- What is known of a lane at its end.
use Rattle.std.specs.Prelude.{◌≡◌, ℕ, ◌≤◌, true, is_some, List, length, take, Some}
use lib.ListN.{get_elem?}
use mathlib.Core.Option.{some}
use Rattle.atomic_table.specs.Table.{State}
use Rattle.aa_lane.specs.WorldState.{WorldState, IsLawful}
use Rattle.aa_lane.specs.Log.{GoesOn, leaves, IsLog}
use Rattle.aa_lane.specs.declared.cells.Who.TheVariants.{ByOwner, ByServer, ByShutter}
use Rattle.aa_lane.specs.declared.cells.Entry.{Entry}
use Rattle.aa_lane.specs.Shows.{HasLog}
use Rattle.aa_lane.specs.Plays.{with_server, with_shutter}
use Rattle.aa_lane.specs.Ends.{LaneSeen}
use Rattle.aa_lane.specs.declared.cells.Cell.{Cell}
use Rattle.aa_lane.specs.declared.cells.View.{View}
use Rattle.aa_lane.specs.declared.cells.Key.{Key}
use Rattle.aa_lane.specs.declared.lane.Ends.{Ends}
use Rattle.aa_lane.specs.declared.lane.Totals.{Totals}

module _ {M S Q A : Type 0} where
  -- the view of the seat that took the others in
  abbrev pub joined : View M S Q A → View M S Q A → View M S Q A → View M S Q A
  joined o s u = with_shutter (with_server o s) u

module _ {M S Q A : Type 0} (next : M → S → Q → S) (reply : M → S → Q → A) where
  -- the last state of the table has a seat with this view
  abbrev pub LastState : Key M S Q A → View M S Q A → Type 0
  LastState k v = (s : State (Cell M S Q A) (View M S Q A)) × (id : ℕ) × HasLog next reply k s × (get_elem? s.views id ≡ some v)

  -- the world that the log leaves is lawful and shut, and the ends and the totals are its lists, counts and state
  pub record Agrees (e : Ends M S Q A) (t : Totals M S Q A) (w : WorldState M S Q A) : Type 0 where
    pub lawful : IsLawful next reply w
    pub shut : w.shut ≡ true
    pub sent : e.owner.sent ≡ w.accepted
    pub got : e.owner.got ≡ w.collected
    pub taken : e.server.taken ≡ take w.taken w.accepted
    pub done : e.server.done ≡ length w.answers
    pub accepted : t.accepted ≡ length w.accepted
    pub answered : t.answered ≡ length w.answers
    pub collected : t.collected ≡ w.collected
    pub state : t.state ≡ w.state
    pub counted : (c : ℕ) → e.shutter.count ≡ Some c → t.accepted ≡ c
    -- an owner that was told that the lane is shut was told so by its shutter's doing
    pub closed : e.owner.closed ≡ true → is_some e.shutter.count ≡ true
    pub within : (t.collected ≤ t.answered) × (t.answered ≤ t.accepted)
    pub settled : e.server.settled ≡ true → t.answered ≡ t.accepted

  -- all that happened at the lane, in one order, which goes on from what each end has seen: the ends made these events, and no others happened
  pub record HasOneOrder (l : LaneSeen M S) (e : Ends M S Q A) (t : Totals M S Q A) : Type 0 where
    pub log : List (Entry M S Q A)
    pub is : IsLog next reply l.machine l.start l.table.slots log
    pub owner : GoesOn ByOwner e.owner.log log
    pub server : GoesOn ByServer e.server.log log
    pub shutter : GoesOn ByShutter e.shutter.log log
    pub shown : Agrees e t (leaves next reply l.machine l.start l.table.slots log)
