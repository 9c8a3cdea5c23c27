use Rattle.std.proofs.Common.{◌≡◌, ◌<◌, ◌++◌, List, [], ◌∷◌, map, length, drop, sym, refl, ap, ◌∙◌, arith, add-one, append_assoc, append-nil}
use Rattle.std.proofs.lemmas.List.{map-append}
use Rattle.aa_lane.specs.Ends.{known}
use Rattle.aa_pool.proofs.FedPairs.{next}
use Rattle.aa_pool.proofs.feeding.settle_all.Goals as goal

nil : {X : Type 0} (xs : List X) → length xs ≡ 0 → xs ≡ []
nil [] e = refl
nil (x ∷ xs) e = absurd (omega arith)

pub settle-requires : goal.settle-requires
settle-requires g c =
    let i = c.loop-server.invariant in
    let s = (c.in-Some.ensures {u = tt}).steps in
    let servers : c.in-Some.server.lane ∷ map (λ s. s.lane) c.next.new.self.rest.items ≡ map known (drop c.loop-server.at c.args.lanes.now) = rw s.0 at i.rest in
    let n = next (λ s. s.lane) known c.in-Some.server c.next.new.self.rest.items c.args.lanes.now c.loop-server.at servers in
    n.here c.index-lanes-at.result c.index-lanes-at.is

pub loop-server-preserved : goal.loop-server-preserved
loop-server-preserved g c =
    let i = c.loop-server.invariant in
    let s = (c.in-Some.ensures {u = tt}).steps in
    let p = c.push_reserved.ensures in
    let servers : c.in-Some.server.lane ∷ map (λ s. s.lane) c.next.new.self.rest.items ≡ map known (drop c.loop-server.at c.args.lanes.now) = rw s.0 at i.rest in
    let n = next (λ s. s.lane) known c.in-Some.server c.next.new.self.rest.items c.args.lanes.now c.loop-server.at servers in
    let w : c.loop-server.at < length c.args.lanes.now = n.within in
    let l = ap length s.0 in
    record {
      rest = rw add-one n.left;
      at = omega arith;
      all = rw (p.items, map-append (λ s. s.lane) c.loop-server.settled.items (c.settle.result ∷ []), append_assoc)
          (ap (λ x. map (λ s. s.lane) c.loop-server.settled.items ++ x ∷ map (λ s. s.lane) c.next.new.self.rest.items) c.settle.ensures
          ∙ ap (λ l. map (λ s. s.lane) c.loop-server.settled.items ++ map (λ s. s.lane) l) (sym s.0) ∙ i.all);
      room = omega (arith, l, p.len, p.capacity, i.room);
    }

pub returns : goal.returns
returns g c =
    let i = c.loop-server.invariant in
    let e : c.loop-server.server-iterator.rest.items ≡ [] = nil _ (omega (arith, c.loop-server.server-iterator.rest.ok, (c.in-None.ensures {u = tt}).steps.0)) in
    sym (append-nil _) ∙ ap (λ l. map (λ s. s.lane) c.loop-server.settled.items ++ map (λ s. s.lane) l) (sym e) ∙ i.all

pub bounds-lanes-at : goal.bounds-lanes-at
bounds-lanes-at g c =
    let i = c.loop-server.invariant in
    let servers : c.in-Some.server.lane ∷ map (λ s. s.lane) c.next.new.self.rest.items ≡ map known (drop c.loop-server.at c.args.lanes.now) = rw ((c.in-Some.ensures {u = tt}).steps.0) at i.rest in
    (next (λ s. s.lane) known c.in-Some.server c.next.new.self.rest.items c.args.lanes.now c.loop-server.at servers).within

pub push_reserved-requires : goal.push_reserved-requires
push_reserved-requires g c = omega (arith, ap length ((c.in-Some.ensures {u = tt}).steps.0), c.loop-server.invariant.room)
