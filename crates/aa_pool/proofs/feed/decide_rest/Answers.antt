use Rattle.std.proofs.Common.{rules, ◌≡◌, ◌++◌, [], ◌∷◌, ◌∙◌, sym, ap, map, arith, length, append_assoc}
use Rattle.std.proofs.lemmas.List.{map-append}
use Rattle.aa_machine.specs.Run.{state_after}
use Rattle.aa_lane.proofs.Runs.{state_after-snoc}
use Rattle.aa_pool.proofs.Answering.{decided}
use Rattle.aa_pool.proofs.feed.decide_rest.Goals as goal

pub left-preserved : goal.left-preserved
left-preserved g c =
    let i = c.left.invariant in
    let p = c.push_reserved.ensures in
    let m = c.args.machine.now in
    let next = g.M.Machine.next in
    let reply = g.M.Machine.reply in
    let rows = c.left.answered.items in
    let number : c.len-number.result ≡ length rows = omega (arith, c.len-number.ensures, c.left.answered.ok) in
    let answer : c.step-answer.result ≡ reply m (state_after (next m) (reply m) c.args.start (map (λ a. a.request) rows)) c.in-Some.request = c.step-answer.ensures.answer ∙ ap (λ s. reply m s c.in-Some.request) i.state in
    let requests = map-append (λ a. a.request) rows (record { number = c.len-number.result; request = c.in-Some.request; answer = c.step-answer.result } ∷ []) in
    record {
      right = rw p.items (decided next reply m c.args.start rows (record { number = c.len-number.result; request = c.in-Some.request; answer = c.step-answer.result }) i.right number answer);
      all = rw (p.items, requests, append_assoc) (ap (λ l. map (λ a. a.request) rows ++ l) (sym (c.in-Some.ensures {u = tt}).items) ∙ i.all);
      state = rw (p.items, requests) (c.step-answer.ensures.state ∙ ap (λ s. next m s c.in-Some.request) i.state ∙ sym (state_after-snoc (next m) (reply m) c.args.start (map (λ a. a.request) rows) c.in-Some.request));
      room = search rules;
    }
