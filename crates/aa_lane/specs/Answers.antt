-- What the calls on a lane's ends answer, and what the end is afterwards.
use Rattle.std.specs.Prelude.{◌≡◌, ℕ, ◌+◌, ◌<◌, ◌≤◌, true, take, Option, Some, None, Result, Ok, Err, List, suc, [], ◌∷◌, ◌++◌, slice_get}
use Rattle.aa_machine.specs.Run.{replies}
use Rattle.aa_lane.specs.Ends.{LaneSeen, OwnerSeen, ServerSeen, ShutterSeen}
use Rattle.aa_lane.specs.Log.{Happens}
use Rattle.aa_lane.specs.declared.cells.Who.{Who}
use Rattle.aa_lane.specs.declared.cells.Who.TheVariants.{ByOwner, ByServer}
use Rattle.aa_lane.specs.declared.cells.Entry.{Entry}
use Rattle.aa_lane.specs.declared.event.SendFault.TheVariants.{Closed}
use Rattle.aa_lane.specs.declared.event.Event.{Event}
use Rattle.aa_lane.specs.declared.event.Event.TheVariants.{Send, Take, Finish, Collect}
use Rattle.aa_lane.specs.declared.event.Reply.{Reply}
use Rattle.aa_lane.specs.declared.event.Reply.TheVariants as says
use Rattle.aa_lane.specs.declared.lane.Unsent.{Unsent}
use Rattle.aa_lane.specs.declared.lane.Answered.{Answered}
use Rattle.aa_lane.specs.declared.lane.Taken.{Taken}
use Rattle.aa_lane.specs.declared.lane.Taken.TheVariants.{Job, Idle, Settled}
use Rattle.aa_lane.specs.declared.lane.Served.{Served}
use Rattle.aa_lane.specs.declared.lane.Served.TheVariants as served

module _ {M S Q A : Type 0} where
  -- the owner after a request was accepted, and after it has left; each with the log up to this event, as below
  abbrev pub sent_of : OwnerSeen M S Q A → Q → List (Entry M S Q A) → OwnerSeen M S Q A
  sent_of o q log = record o { sent = o.sent ++ q ∷ []; log = log }

  -- the owner once it has left
  abbrev pub left_of : OwnerSeen M S Q A → List (Entry M S Q A) → OwnerSeen M S Q A
  left_of o log = record o { left = true; log = log }

  -- the shutter after it was given a count
  abbrev pub shut_of : ShutterSeen M S Q A → ℕ → List (Entry M S Q A) → ShutterSeen M S Q A
  shut_of s n log = record s { count = Some n; log = log }

  -- the owner after a look that found n answers
  abbrev pub collected_of : OwnerSeen M S Q A → ℕ → List (Entry M S Q A) → OwnerSeen M S Q A
  collected_of o n log = record o { got = o.got + 1; found = n; log = log }

  -- the owner after a look that found no answer
  abbrev pub uncollected_of : OwnerSeen M S Q A → ℕ → List (Entry M S Q A) → OwnerSeen M S Q A
  uncollected_of o n log = record o { found = n; log = log }

  -- the server after a look that found n requests
  abbrev pub job_of : ServerSeen M S Q A → ℕ → Q → List (Entry M S Q A) → ServerSeen M S Q A
  job_of s n q log = record s { taken = s.taken ++ q ∷ []; seen = n; log = log }

  -- the server after a look that found no request
  abbrev pub idle_of : ServerSeen M S Q A → ℕ → List (Entry M S Q A) → ServerSeen M S Q A
  idle_of s n log = record s { seen = n; log = log }

  -- the server after a look that found the lane settled
  abbrev pub settled_of : ServerSeen M S Q A → ℕ → List (Entry M S Q A) → ServerSeen M S Q A
  settled_of s n log = record s { seen = n; settled = true; log = log }

  -- the server after it has answered
  abbrev pub finished_of : ServerSeen M S Q A → List (Entry M S Q A) → ServerSeen M S Q A
  finished_of s log = record s { done = s.done + 1; log = log }

  -- one look at the gate: there is a request more than were answered, or not, and then the lane may be settled
  abbrev pub Takes : ServerSeen M S Q A → Taken M S Q A → Type 0
  Takes s (Job b) = (s.done < b.server.seen) × (b.server ≡ job_of s b.server.seen b.request b.server.log)
  Takes s (Idle t) = (t.seen ≤ s.done) × (t ≡ idle_of s t.seen t.log)
  Takes s (Settled t) = (t.seen ≤ s.done) × (t ≡ settled_of s t.seen t.log)

  -- the same, and the request is answered
  abbrev pub Serves : ServerSeen M S Q A → Served M S Q A → Type 0
  Serves s (served.Did t) = (s.done < t.seen) × ((q : Q) × (t ≡ finished_of (job_of s t.seen q t.log) t.log))
  Serves s (served.Idle t) = (t.seen ≤ s.done) × (t ≡ idle_of s t.seen t.log)
  Serves s (served.Settled t) = (t.seen ≤ s.done) × (t ≡ settled_of s t.seen t.log)

  -- the answer is that the lane is settled
  abbrev pub SaysSettled : Taken M S Q A → Type 0
  SaysSettled (Job b) = ⊥
  SaysSettled (Idle t) = ⊥
  SaysSettled (Settled t) = Unit {0}

  -- what serving a settled lane answers
  abbrev pub StaysSettled : Served M S Q A → Type 0
  StaysSettled (served.Did t) = ⊥
  StaysSettled (served.Idle t) = ⊥
  StaysSettled (served.Settled t) = Unit {0}

-- what one look gave
abbrev pub look : {X : Type 0} → Option X → List X
look None = []
look (Some x) = x ∷ []

module _ {M S Q A : Type 0} (next : M → S → Q → S) (reply : M → S → Q → A) where
  -- one look at the answers: the first that the owner hasn't got, with its number and its request, or none
  abbrev pub Collects : LaneSeen M S → OwnerSeen M S Q A → OwnerSeen M S Q A → Option (Answered M S Q A) → Type 0
  Collects l o o' None = (o'.found ≤ o.got) × (o' ≡ uncollected_of o o'.found o'.log)
  Collects l o o' (Some a) = (o.got < o'.found) × (a.number ≡ o.got) × (slice_get o.sent o.got ≡ Some a.request)
      × (slice_get (replies (next l.machine) (reply l.machine) l.start o.sent) o.got ≡ Some a.answer) × (o' ≡ collected_of o o'.found o'.log)

  -- this end of the lane makes an event
  abbrev pub HappensAt : LaneSeen M S → Who → List (Entry M S Q A) → Event M S Q A → Reply M S Q A → List (Entry M S Q A) → Type 0
  HappensAt l a before e r now = Happens next reply l.machine l.start l.table.slots a before e r now

  -- the event that each answer is: a send that its own counts refuse is none
  abbrev pub SendHappens : LaneSeen M S → OwnerSeen M S Q A → Q → OwnerSeen M S Q A → Result ℕ (Unsent M S Q A) → Type 0
  SendHappens l o q o' (Ok n) = HappensAt l ByOwner o.log (Send q) (says.Accepted n) o'.log
  SendHappens l o q o' (Err u) = u.fault ≡ Closed → HappensAt l ByOwner o.log (Send q) (says.Unsent Closed q) o'.log

  -- collecting is that event of the lane's world
  abbrev pub CollectHappens : LaneSeen M S → OwnerSeen M S Q A → OwnerSeen M S Q A → Option (Answered M S Q A) → Type 0
  CollectHappens l o o' None = HappensAt l ByOwner o.log Collect says.Nothing o'.log
  CollectHappens l o o' (Some a) = HappensAt l ByOwner o.log Collect (says.Given a.number) o'.log

  -- taking is that event of the lane's world
  abbrev pub TakeHappens : LaneSeen M S → ServerSeen M S Q A → Taken M S Q A → Type 0
  TakeHappens l s (Job b) = HappensAt l ByServer s.log Take (says.Taken s.done) b.server.log
  TakeHappens l s (Idle t) = HappensAt l ByServer s.log Take says.Idle t.log
  TakeHappens l s (Settled t) = HappensAt l ByServer s.log Take says.Settled t.log

  -- serving is taking, and finishing where a request was taken
  abbrev pub ServeHappens : LaneSeen M S → ServerSeen M S Q A → Served M S Q A → Type 0
  ServeHappens l s (served.Did t) = (log : List (Entry M S Q A)) × HappensAt l ByServer s.log Take (says.Taken s.done) log × HappensAt l ByServer log Finish (says.Finished s.done) t.log
  ServeHappens l s (served.Idle t) = HappensAt l ByServer s.log Take says.Idle t.log
  ServeHappens l s (served.Settled t) = HappensAt l ByServer s.log Take says.Settled t.log

  -- requests from a state on, each with its answer and its number, the first of which is n
  abbrev pub answered_from : M → ℕ → S → List Q → List (Answered M S Q A)
  answered_from m n s [] = []
  answered_from m n s (q ∷ qs) = record { number = n; request = q; answer = reply m s q } ∷ answered_from m (suc n) (next m s q) qs

  -- all that an owner has collected, in order
  abbrev pub collected_by : LaneSeen M S → OwnerSeen M S Q A → List (Answered M S Q A)
  collected_by l o = take o.got (answered_from l.machine 0 l.start o.sent)
