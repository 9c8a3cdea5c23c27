use Rattle.std.proofs.Common.{◌≡◌, [], ◌∷◌, ◌++◌, map, length, sym, ap, ◌∙◌, arith, append_assoc, append-nil}
use Rattle.std.proofs.lemmas.List.{length-map, map-append}
use Rattle.aa_lane.specs.Ends.{known, new_shutter}
use Rattle.aa_pool.proofs.Cuts.{nil, both}
use Rattle.aa_pool.proofs.close.close_all.Goals as goal

pub next_of-finished-requires : goal.next_of-finished-requires
next_of-finished-requires g c =
    let i = c.loop-lane.invariant in
    let s = ap length ((c.in-Some.ensures {u = tt}).steps.0) in
    omega (arith, s, ap length i.owners, length-map c.loop-lane.finished.rest.items (λ f. f.leaver.lane), length-map c.loop-lane.lane-iterator.rest.items known)

pub next_of-server-requires : goal.next_of-server-requires
next_of-server-requires g c =
    let i = c.loop-lane.invariant in
    let s = ap length ((c.in-Some.ensures {u = tt}).steps.0) in
    omega (arith, s, ap length i.servers, length-map c.loop-lane.servers.rest.items (λ s. s.lane), length-map c.loop-lane.lane-iterator.rest.items known)

pub next_of-shutter-requires : goal.next_of-shutter-requires
next_of-shutter-requires g c =
    let many : length c.loop-lane.shutters.rest.items ≡ length c.loop-lane.lane-iterator.rest.items = ap length c.loop-lane.invariant.shutters ∙ length-map c.loop-lane.lane-iterator.rest.items new_shutter in
    omega (arith, many, ap length ((c.in-Some.ensures {u = tt}).steps.0))

pub close-requires-clause-owner : goal.close-requires-clause-owner
close-requires-clause-owner g c =
    let owners : c.next_of-finished.result.leaver.lane ∷ map (λ f. f.leaver.lane) c.next_of-finished.new.values.rest.items ≡ known c.in-Some.lane ∷ map known c.next.new.self.rest.items =
    rw (c.next_of-finished.ensures, (c.in-Some.ensures {u = tt}).steps.0) at c.loop-lane.invariant.owners in
    (both owners).0

pub close-requires-clause-server : goal.close-requires-clause-server
close-requires-clause-server g c =
    let servers : c.next_of-server.result.lane ∷ map (λ s. s.lane) c.next_of-server.new.values.rest.items ≡ known c.in-Some.lane ∷ map known c.next.new.self.rest.items =
    rw (c.next_of-server.ensures, (c.in-Some.ensures {u = tt}).steps.0) at c.loop-lane.invariant.servers in
    (both servers).0

pub close-requires-clause-shutter : goal.close-requires-clause-shutter
close-requires-clause-shutter g c =
    let shutters : c.next_of-shutter.result ∷ c.next_of-shutter.new.values.rest.items ≡ new_shutter c.in-Some.lane ∷ map new_shutter c.next.new.self.rest.items =
    rw (c.next_of-shutter.ensures, (c.in-Some.ensures {u = tt}).steps.0) at c.loop-lane.invariant.shutters in
    (both shutters).0

pub push_reserved-requires : goal.push_reserved-requires
push_reserved-requires g c = omega (arith, ap length ((c.in-Some.ensures {u = tt}).steps.0), c.loop-lane.invariant.room)

pub loop-lane-preserved : goal.loop-lane-preserved
loop-lane-preserved g c =
    let i = c.loop-lane.invariant in
    let s = (c.in-Some.ensures {u = tt}).steps.0 in
    let p = c.push_reserved.ensures in
    let done = c.loop-lane.outcomes.items in
    let left = c.next_of-finished.new.values.rest.items in
    let n = ap length s in
    let owners : c.next_of-finished.result.leaver.lane ∷ map
    (λ f. f.leaver.lane) c.next_of-finished.new.values.rest.items ≡ known c.in-Some.lane ∷ map known c.next.new.self.rest.items = rw
    (c.next_of-finished.ensures, s) at i.owners in
    let servers : c.next_of-server.result.lane ∷ map (λ s. s.lane) c.next_of-server.new.values.rest.items ≡ known c.in-Some.lane ∷ map known c.next.new.self.rest.items = rw (c.next_of-server.ensures, s) at i.servers in
    let shutters : c.next_of-shutter.result ∷ c.next_of-shutter.new.values.rest.items ≡ new_shutter c.in-Some.lane ∷ map new_shutter c.next.new.self.rest.items = rw (c.next_of-shutter.ensures, s) at i.shutters in
    record {
      owners = (both owners).1;
      servers = (both servers).1;
      shutters = (both shutters).1;
      answers = rw (p.items, map-append (λ o. o.answers.items) done (c.close.result ∷ []), append_assoc)
          (ap (λ x. map (λ o. o.answers.items) done ++ x ∷ map (λ f. f.answers.items) left) c.close.ensures.answers
          ∙ ap (λ l. map (λ o. o.answers.items) done ++ map (λ f. f.answers.items) l) (sym c.next_of-finished.ensures) ∙ i.answers);
      closed = λ os h. rw (p.items, append_assoc) (i.closed (c.close.result ∷ os) (rw s (c.close.ensures.closed, h)));
      room = omega (arith, n, p.len, p.capacity, i.room);
    }

pub returns-clause-answers : goal.returns-clause-answers
returns-clause-answers g c =
    let i = c.loop-lane.invariant in
    let e : c.loop-lane.lane-iterator.rest.items ≡ [] = nil _ (omega (arith, c.loop-lane.lane-iterator.rest.ok, (c.in-None.ensures {u = tt}).steps.0)) in
    let n : length c.loop-lane.finished.rest.items ≡ 0 = sym (length-map c.loop-lane.finished.rest.items (λ f. f.leaver.lane)) ∙ ap length i.owners ∙ ap (λ l. length (map known l)) e in
    let f : c.loop-lane.finished.rest.items ≡ [] = nil _ n in
    sym (append-nil _) ∙ ap (λ l. map (λ o. o.answers.items) c.loop-lane.outcomes.items ++ map (λ f. f.answers.items) l) (sym f) ∙ i.answers

pub returns-clause-closed : goal.returns-clause-closed
returns-clause-closed g c =
    let i = c.loop-lane.invariant in
    let e : c.loop-lane.lane-iterator.rest.items ≡ [] = nil _ (omega (arith, c.loop-lane.lane-iterator.rest.ok, (c.in-None.ensures {u = tt}).steps.0)) in
    rw append-nil at (i.closed [] (rw e tt))
