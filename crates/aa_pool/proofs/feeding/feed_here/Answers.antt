use Rattle.std.proofs.Common.{◌≡◌, ◌≤◌, ◌<◌, ◌-◌, ◌++◌, List, [], ◌∷◌, map, length, drop, sym, refl, ap, ◌∙◌, arith, add-one, length-drop, append_assoc, append-nil}
use Rattle.std.proofs.lemmas.List.{length-map, map-append}
use mathlib.Core.Logic.{dite}
use native.Mathlib.Decide.{ℕ_discrete}
use Rattle.aa_lane.specs.Ends.{known}
use Rattle.aa_pool.proofs.FedPairs.{next}
use Rattle.aa_pool.proofs.feeding.feed_here.Goals as goal

nil : {X : Type 0} (xs : List X) → length xs ≡ 0 → xs ≡ []
nil [] e = refl
nil (x ∷ xs) e = absurd (omega arith)

pub alone_at-requires-clause-server : goal.alone_at-requires-clause-server
alone_at-requires-clause-server g c =
    let i = c.loop-server.invariant in
    let s = (c.in-Some.ensures {u = tt}).steps in
    let servers : c.in-Some.server.lane ∷ map (λ s. s.lane) c.next.new.self.rest.items ≡ map known (drop c.loop-server.at c.args.lanes.now) = rw s.0 at i.rest in
    let n = next (λ s. s.lane) known c.in-Some.server c.next.new.self.rest.items c.args.lanes.now c.loop-server.at servers in
    n.here c.index-lanes-at.result c.index-lanes-at.is

pub loop-server-preserved : goal.loop-server-preserved
loop-server-preserved g c =
    let i = c.loop-server.invariant in
    let s = (c.in-Some.ensures {u = tt}).steps in
    let servers : c.in-Some.server.lane ∷ map (λ s. s.lane) c.next.new.self.rest.items ≡ map known (drop c.loop-server.at c.args.lanes.now) = rw s.0 at i.rest in
    let n = next (λ s. s.lane) known c.in-Some.server c.next.new.self.rest.items c.args.lanes.now c.loop-server.at servers in
    let w : c.loop-server.at < length c.args.lanes.now = n.within in
    let len : length c.loop-server.feeds ≡ length c.args.lanes.now = i.same.len ∙ c.requires.len in
    let p = c.push_reserved.ensures in
    let l = ap length s.0 in
    record {
      rest = rw add-one n.left;
      all = rw (p.items, map-append (λ s. s.lane) c.loop-server.served.items (c.alone_at.result ∷ []), append_assoc)
          (ap (λ x. map (λ s. s.lane) c.loop-server.served.items ++ x ∷ map (λ s. s.lane) c.next.new.self.rest.items) c.alone_at.ensures.server
          ∙ ap (λ l. map (λ s. s.lane) c.loop-server.served.items ++ map (λ s. s.lane) l) (sym s.0) ∙ i.all);
      room = omega (arith, l, p.len, p.capacity, i.room);
      at = omega arith;
      same = record {
        len = c.alone_at.ensures.same.len ∙ i.same.len;
        lanes = λ k d below. c.alone_at.ensures.same.lanes k d (omega (arith, i.same.len)) ∙ i.same.lanes k d below;
        all = λ k d below. c.alone_at.ensures.same.all k d (omega (arith, i.same.len)) ∙ i.same.all k d below;
      };
      finished = λ k d below. dite (ℕ_discrete k c.loop-server.at) (λ is. rw is (c.alone_at.ensures.finished d)) (λ ne. ap (λ f. f.finished) (c.alone_at.ensures.others k d ne) ∙ i.finished k d (omega arith));
    }

pub returns : goal.returns
returns g c =
    let i = c.loop-server.invariant in
    let len : length c.loop-server.feeds ≡ length c.args.lanes.now = i.same.len ∙ c.requires.len in
    let none : length (map known (drop c.loop-server.at c.args.lanes.now)) ≡ 0 = sym (ap length i.rest)
    ∙ length-map c.loop-server.server-iterator.rest.items (λ s. s.lane)
    ∙ omega (arith, c.loop-server.server-iterator.rest.ok, (c.in-None.ensures {u = tt}).steps.0) in
    let m : length (map known (drop c.loop-server.at c.args.lanes.now)) ≡ length (drop c.loop-server.at c.args.lanes.now) = length-map (drop c.loop-server.at c.args.lanes.now) known in
    let d : length (drop c.loop-server.at c.args.lanes.now) ≡ length c.args.lanes.now - c.loop-server.at = length-drop c.loop-server.at c.args.lanes.now in
    let at : length c.args.lanes.now ≤ c.loop-server.at = omega arith in
    let e : c.loop-server.server-iterator.rest.items ≡ [] = nil _ (omega (arith, c.loop-server.server-iterator.rest.ok, (c.in-None.ensures {u = tt}).steps.0)) in
    record {
      fed = record { same = i.same; finished = λ k d below. i.finished k d (omega arith) };
      served = sym (append-nil _) ∙ ap (λ l. map (λ s. s.lane) c.loop-server.served.items ++ map (λ s. s.lane) l) (sym e) ∙ i.all;
    }

pub bounds-lanes-at : goal.bounds-lanes-at
bounds-lanes-at g c =
    let i = c.loop-server.invariant in
    let servers : c.in-Some.server.lane ∷ map (λ s. s.lane) c.next.new.self.rest.items ≡ map known (drop c.loop-server.at c.args.lanes.now) = rw ((c.in-Some.ensures {u = tt}).steps.0) at i.rest in
    (next (λ s. s.lane) known c.in-Some.server c.next.new.self.rest.items c.args.lanes.now c.loop-server.at servers).within

pub push_reserved-requires : goal.push_reserved-requires
push_reserved-requires g c = omega (arith, ap length ((c.in-Some.ensures {u = tt}).steps.0), c.loop-server.invariant.room)

pub alone_at-requires-clause-within : goal.alone_at-requires-clause-within
alone_at-requires-clause-within g c =
    let i = c.loop-server.invariant in
    let servers : c.in-Some.server.lane ∷ map (λ s. s.lane) c.next.new.self.rest.items ≡ map known (drop c.loop-server.at c.args.lanes.now) = rw ((c.in-Some.ensures {u = tt}).steps.0) at i.rest in
    let w : c.loop-server.at < length c.args.lanes.now = (next (λ s. s.lane) known c.in-Some.server c.next.new.self.rest.items c.args.lanes.now c.loop-server.at servers).within in
    omega (arith, w, i.same.len, c.requires.len)
