use Rattle.std.proofs.Common.{◌≡◌, All, ◌++◌, [], ◌∷◌, true, map, length, sym, ap, ◌∙◌, arith, append_assoc, append-nil}
use Rattle.std.proofs.lemmas.List.{map-append}
use Rattle.std.proofs.lemmas.List.Elements.{All-head, All-rest}
use Rattle.aa_lane.specs.Ends.{known}
use Rattle.aa_pool.specs.Fed.{answers_of}
use Rattle.aa_pool.proofs.Cuts.{nil}
use Rattle.aa_pool.proofs.feeding.finish_all.Goals as goal

pub loop-feed-preserved : goal.loop-feed-preserved
loop-feed-preserved g c =
    let i = c.loop-feed.invariant in
    let s = (c.in-Some.ensures {u = tt}).steps in
    let p = c.push_reserved.ensures in
    let done = c.loop-feed.finished.items in
    let left = c.next.new.self.rest.items in
    let of = answers_of g.M.Machine.next g.M.Machine.reply in
    let n = ap length s.0 in
    record {
      answers = rw (p.items, map-append (λ f. f.answers.items) done (c.finish.result ∷ []), append_assoc)
          (ap (λ x. map (λ f. f.answers.items) done ++ x ∷ map of left) c.finish.ensures.answers
          ∙ ap (λ l. map (λ f. f.answers.items) done ++ map of l) (sym s.0) ∙ i.answers);
      of = rw (p.items, map-append (λ f. f.leaver.lane) done (c.finish.result ∷ []), append_assoc)
          (ap (λ x. map (λ f. f.leaver.lane) done ++ x ∷ map (λ f. known f.lane) left) c.finish.ensures.of
          ∙ ap (λ l. map (λ f. f.leaver.lane) done ++ map (λ f. known f.lane) l) (sym s.0) ∙ i.of);
      machine = All-rest (λ f. f.lane.machine ≡ c.args.machine.now) c.in-Some.feed left c.loop-feed.feed-iterator.rest.items s.0 i.machine;
      finished = All-rest (λ f. f.finished ≡ true) c.in-Some.feed left c.loop-feed.feed-iterator.rest.items s.0 i.finished;
      room = omega (arith, n, p.len, p.capacity, i.room);
    }

pub returns : goal.returns
returns g c =
    let i = c.loop-feed.invariant in
    let e : c.loop-feed.feed-iterator.rest.items ≡ [] = nil _ (omega (arith, c.loop-feed.feed-iterator.rest.ok, (c.in-None.ensures {u = tt}).steps.0)) in
    let of = answers_of g.M.Machine.next g.M.Machine.reply in
    record {
      answers = sym (append-nil _) ∙ ap (λ l. map (λ f. f.answers.items) c.loop-feed.finished.items ++ map of l) (sym e) ∙ i.answers;
      of = sym (append-nil _) ∙ ap (λ l. map (λ f. f.leaver.lane) c.loop-feed.finished.items ++ map (λ f. known f.lane) l) (sym e) ∙ i.of;
    }

pub finish-requires-clause-machine : goal.finish-requires-clause-machine
finish-requires-clause-machine g c =
    let s = (c.in-Some.ensures {u = tt}).steps in
    let all : All (λ f. f.lane.machine ≡ c.args.machine.now) (c.in-Some.feed ∷ c.next.new.self.rest.items) = rw s.0 at c.loop-feed.invariant.machine in
    sym (All-head (λ f. f.lane.machine ≡ c.args.machine.now) c.in-Some.feed c.next.new.self.rest.items all)

pub finish-requires-clause-finished : goal.finish-requires-clause-finished
finish-requires-clause-finished g c =
    let s = (c.in-Some.ensures {u = tt}).steps in
    let all : All (λ f. f.finished ≡ true) (c.in-Some.feed ∷ c.next.new.self.rest.items) = rw s.0 at c.loop-feed.invariant.finished in
    All-head (λ f. f.finished ≡ true) c.in-Some.feed c.next.new.self.rest.items all

pub push_reserved-requires : goal.push_reserved-requires
push_reserved-requires g c =
    let s = (c.in-Some.ensures {u = tt}).steps in
    omega (arith, ap length s.0, c.loop-feed.invariant.room)
