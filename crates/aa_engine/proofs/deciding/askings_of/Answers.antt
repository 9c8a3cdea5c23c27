use Rattle.std.proofs.Common.{◌≡◌, ◌<◌, ◌++◌, [], map, length, take, sym, ap, ◌∙◌, arith, append_assoc, append-nil}
use Rattle.std.proofs.lemmas.List.{map-append}
use Rattle.std.proofs.Math.Seq.{take-length}
use Rattle.aa_pool.proofs.Cuts.{nil}
use Rattle.aa_engine.specs.Answers.{task_label}
use Rattle.aa_engine.proofs.Answering.{mapped_more, none_unknown}
use Rattle.aa_engine.proofs.deciding.askings_of.Goals as goal

pub bounds-tasks-at : goal.bounds-tasks-at
bounds-tasks-at g c = omega (arith, c.loop-requests.invariant.left, ap length ((c.in-Some.ensures {u = tt}).steps.0))

pub unreachable-requires : goal.unreachable-requires
unreachable-requires g c =
    let s = (c.in-Some.ensures {u = tt}).steps in
    let within : c.loop-requests.at < length c.args.tasks.now = omega (arith, c.loop-requests.invariant.left, ap length s.0) in
    none_unknown _ c.args.tasks.now c.loop-requests.at c.index-tasks-at.result (sym c.requires.known) within c.index-tasks-at.is (sym c.in_default.is ∙ c.opening_label.ensures)

pub loop-requests-preserved : goal.loop-requests-preserved
loop-requests-preserved g c =
    let i = c.loop-requests.invariant in
    let s = (c.in-Some.ensures {u = tt}).steps.0 in
    let items = c.in_ok-push.ensures.items in
    let done = c.loop-requests.askings.items in
    let n = ap length s in
    let within : c.loop-requests.at < length c.args.tasks.now = omega (arith, i.left, n) in
    record {
      labels = rw (items, map-append) (mapped_more (task_label c.args.policies.now) _ c.args.tasks.now c.loop-requests.at c.index-tasks-at.result _ within c.index-tasks-at.is (cc) i.labels);
      requests = rw (items, map-append, append_assoc) (ap (λ l. map (λ a. a.requests.items) done ++ map (λ q. q.items) l) (sym s) ∙ i.requests);
      left = omega (arith, n, i.left);
    }

pub returns-clause-labels : goal.returns-clause-labels
returns-clause-labels g c =
    let at : c.loop-requests.at ≡ length c.args.tasks.now = omega (arith, c.loop-requests.invariant.left, c.loop-requests.requests-iterator.rest.ok, (c.in-None.ensures {u = tt}).steps.0) in
    c.loop-requests.invariant.labels ∙ ap (λ n. map (task_label c.args.policies.now) (take n c.args.tasks.now)) at ∙ ap (map (task_label c.args.policies.now)) (take-length c.args.tasks.now)

pub returns-clause-requests : goal.returns-clause-requests
returns-clause-requests g c =
    let e : c.loop-requests.requests-iterator.rest.items ≡ [] = nil _ (omega (arith, c.loop-requests.requests-iterator.rest.ok, (c.in-None.ensures {u = tt}).steps.0)) in
    sym (append-nil _) ∙ ap (λ l. map (λ a. a.requests.items) c.loop-requests.askings.items ++ map (λ q. q.items) l) (sym e) ∙ c.loop-requests.invariant.requests
