use Rattle.std.proofs.Common.{◌≡◌, ◌-◌, ◌<◌, ◌++◌, [], ◌∷◌, map, length, take, drop, sym, ap, ◌∙◌, arith, add-one, length-drop, append_assoc, append-nil}
use Rattle.std.proofs.lemmas.List.{length-map, map-append, take_more}
use Rattle.std.proofs.Math.Seq.{take-length}
use Rattle.aa_lane.specs.Ends.{new_owner}
use Rattle.aa_pool.specs.Answers.{AreRooms}
use Rattle.aa_pool.proofs.Closing.{rooms_length}
use Rattle.aa_pool.proofs.Cuts.{nil, stepped}
use Rattle.aa_pool.proofs.tasks.feeds_of.Goals as goal

pub loop-task-preserved : goal.loop-task-preserved
loop-task-preserved g c =
    let i = c.loop-task.invariant in
    let s = (c.in-Some.ensures {u = tt}).steps in
    let p = c.push_reserved.ensures in
    let f = c.feed_of.result in
    let is = c.feed_of.ensures in
    let lanes = c.args.lanes.now in
    let feeds = c.loop-task.feeds.items in
    let left = c.next.new.self.rest.items in
    let owners : c.next_of-owner.result ∷ c.next_of-owner.new.values.rest.items ≡ map new_owner (drop c.loop-task.at c.args.lanes.now) = rw c.next_of-owner.ensures at i.owners in
    let o = stepped new_owner c.next_of-owner.result c.next_of-owner.new.values.rest.items lanes c.loop-task.at owners in
    let starts : c.in-Some.task.start ∷ map (λ t. t.start) c.next.new.self.rest.items ≡ map (λ a. a.start) (drop c.loop-task.at c.args.lanes.now) = rw s.0 at i.starts in
    let t = stepped (λ a. a.start) c.in-Some.task.start (map (λ t. t.start) left) lanes c.loop-task.at starts in
    let rooms : AreRooms (c.in-Some.task ∷ c.next.new.self.rest.items) (c.next_of-room.result ∷ c.next_of-room.new.values.rest.items) = rw (s.0, c.next_of-room.ensures) at i.rooms in
    let w : c.loop-task.at < length c.args.lanes.now = o.within in
    let h = is.0 ∙ c.index-lanes-at.is in
    record {
      owners = rw add-one o.left;
      starts = rw add-one t.left;
      rooms = rooms.2;
      at = omega arith;
      lanes = rw (p.items, map-append (λ f. f.lane) feeds (f ∷ [])) ((λ k. i.lanes k ++ h k ∷ []) ∙ sym (take_more lanes c.loop-task.at c.index-lanes-at.result w));
      requests = rw (p.items, map-append (λ f. f.all) feeds (f ∷ []), append_assoc)
          (ap (λ y. map (λ f. f.all) feeds ++ y ∷ map (λ t. t.requests.items) left) is.1
          ∙ ap (λ l. map (λ f. f.all) feeds ++ map (λ t. t.requests.items) l) (sym s.0) ∙ i.requests);
      room = (omega (arith, p.len, i.room.0), omega (arith, p.capacity, i.room.1));
    }

pub returns : goal.returns
returns g c =
    let i = c.loop-task.invariant in
    let lanes = c.args.lanes.now in
    let rest = c.loop-task.task-iterator.rest.items in
    let e : c.loop-task.task-iterator.rest.items ≡ [] = nil _ (omega (arith, c.loop-task.task-iterator.rest.ok, (c.in-None.ensures {u = tt}).steps.0)) in
    let none : length (map (λ a. a.start) (drop c.loop-task.at c.args.lanes.now)) ≡ 0 = sym (ap length i.starts) ∙ length-map rest (λ t. t.start) ∙ ap length e in
    let m : length (map (λ a. a.start) (drop c.loop-task.at c.args.lanes.now)) ≡ length (drop c.loop-task.at c.args.lanes.now) = length-map (drop c.loop-task.at c.args.lanes.now) (λ a. a.start) in
    let d : length (drop c.loop-task.at c.args.lanes.now) ≡ length c.args.lanes.now - c.loop-task.at = length-drop c.loop-task.at c.args.lanes.now in
    let at : c.loop-task.at ≡ length c.args.lanes.now = omega (arith, i.at) in
    record {
      lanes_are = i.lanes ∙ ap (λ n. take n lanes) at ∙ take-length lanes;
      requests_are = sym (append-nil _) ∙ ap (λ l. map (λ f. f.all) c.loop-task.feeds.items ++ map (λ t. t.requests.items) l) (sym e) ∙ i.requests;
    }

pub feed_of-requires-clause-owner : goal.feed_of-requires-clause-owner
feed_of-requires-clause-owner g c =
    let owners : c.next_of-owner.result ∷ c.next_of-owner.new.values.rest.items ≡ map new_owner (drop c.loop-task.at c.args.lanes.now) = rw c.next_of-owner.ensures at c.loop-task.invariant.owners in
    let o = stepped new_owner c.next_of-owner.result c.next_of-owner.new.values.rest.items c.args.lanes.now c.loop-task.at owners in
    o.here c.index-lanes-at.result c.index-lanes-at.is

pub feed_of-requires-clause-start : goal.feed_of-requires-clause-start
feed_of-requires-clause-start g c =
    let s = (c.in-Some.ensures {u = tt}).steps in
    let starts : c.in-Some.task.start ∷ map (λ t. t.start) c.next.new.self.rest.items ≡ map (λ a. a.start) (drop c.loop-task.at c.args.lanes.now) = rw s.0 at c.loop-task.invariant.starts in
    let t = stepped (λ a. a.start) c.in-Some.task.start (map (λ t. t.start) c.next.new.self.rest.items) c.args.lanes.now c.loop-task.at starts in
    t.here c.index-lanes-at.result c.index-lanes-at.is

pub next_of-owner-requires : goal.next_of-owner-requires
next_of-owner-requires g c =
    let i = c.loop-task.invariant in
    let owners : length c.loop-task.owners.rest.items ≡ length (drop c.loop-task.at c.args.lanes.now) = ap length i.owners ∙ length-map (drop c.loop-task.at c.args.lanes.now) new_owner in
    let starts : length (map (λ t. t.start) c.loop-task.task-iterator.rest.items) ≡ length (drop c.loop-task.at c.args.lanes.now) = ap length i.starts ∙ length-map (drop c.loop-task.at c.args.lanes.now) (λ a. a.start) in
    omega (arith, owners, starts, length-map c.loop-task.task-iterator.rest.items (λ t. t.start), ap length ((c.in-Some.ensures {u = tt}).steps.0))

pub next_of-room-requires : goal.next_of-room-requires
next_of-room-requires g c = omega (arith, ap length ((c.in-Some.ensures {u = tt}).steps.0), rooms_length _ _ c.loop-task.invariant.rooms)

pub bounds-lanes-at : goal.bounds-lanes-at
bounds-lanes-at g c =
    let owners : c.next_of-owner.result ∷ c.next_of-owner.new.values.rest.items ≡ map new_owner (drop c.loop-task.at c.args.lanes.now) = rw c.next_of-owner.ensures at c.loop-task.invariant.owners in
    (stepped new_owner c.next_of-owner.result c.next_of-owner.new.values.rest.items c.args.lanes.now c.loop-task.at owners).within

pub feed_of-requires-clause-empty : goal.feed_of-requires-clause-empty
feed_of-requires-clause-empty g c =
    let rooms : AreRooms (c.in-Some.task ∷ c.next.new.self.rest.items) (c.next_of-room.result ∷ c.next_of-room.new.values.rest.items) = rw ((c.in-Some.ensures {u = tt}).steps.0, c.next_of-room.ensures) at c.loop-task.invariant.rooms in
    rooms.0

pub feed_of-requires-clause-room : goal.feed_of-requires-clause-room
feed_of-requires-clause-room g c =
    let rooms : AreRooms (c.in-Some.task ∷ c.next.new.self.rest.items) (c.next_of-room.result ∷ c.next_of-room.new.values.rest.items) = rw ((c.in-Some.ensures {u = tt}).steps.0, c.next_of-room.ensures) at c.loop-task.invariant.rooms in
    rooms.1

pub push_reserved-requires : goal.push_reserved-requires
push_reserved-requires g c =
    let owners : c.next_of-owner.result ∷ c.next_of-owner.new.values.rest.items ≡ map new_owner (drop c.loop-task.at c.args.lanes.now) = rw c.next_of-owner.ensures at c.loop-task.invariant.owners in
    let w : c.loop-task.at < length c.args.lanes.now = (stepped new_owner c.next_of-owner.result c.next_of-owner.new.values.rest.items c.args.lanes.now c.loop-task.at owners).within in
    omega (arith, w, c.loop-task.invariant.room.0, c.loop-task.invariant.room.1)

pub feed_of-requires-clause-capacity : goal.feed_of-requires-clause-capacity
feed_of-requires-clause-capacity g c =
    let i = c.loop-task.invariant in
    let starts : c.in-Some.task.start ∷ map (λ t. t.start) c.next.new.self.rest.items ≡ map (λ a. a.start) (drop c.loop-task.at c.args.lanes.now) = rw ((c.in-Some.ensures {u = tt}).steps.0) at i.starts in
    let t = stepped (λ a. a.start) c.in-Some.task.start (map (λ t. t.start) c.next.new.self.rest.items) c.args.lanes.now c.loop-task.at starts in
    (c.requires.capacity.0, ap (λ l. l.table.slots) c.index-lanes-at.is ∙ c.requires.capacity.1 c.loop-task.at c.index-lanes-at.result t.within)
