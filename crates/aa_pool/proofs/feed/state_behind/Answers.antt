use Rattle.std.proofs.Common.{◌<◌, ◌++◌, [], ◌∷◌, length, map, take, sym, ap, ◌∙◌}
use Rattle.std.proofs.lemmas.List.{map-append, take_all, take_more}
use Rattle.aa_machine.specs.Run.{state_after}
use Rattle.aa_lane.proofs.Runs.{state_after-snoc}
use Rattle.aa_pool.proofs.feed.state_behind.Goals as goal

pub loop-given-preserved : goal.loop-given-preserved
loop-given-preserved g c =
    let next = g.M.Machine.next c.args.machine.now in
    let reply = g.M.Machine.reply c.args.machine.now in
    let rows = c.args.answered.now in
    let at = c.loop-given.given-index in
    let given = c.given-item.result in
    let n : c.loop-given.given-index < length c.args.answered.now = c.loop-given-test.true in
    let more = take_more rows at given n ∙ ap (λ r. take at rows ++ r ∷ []) (sym c.given-item.is) in
    c.step.ensures.state ∙ ap (λ s. next s given.request) c.loop-given.invariant ∙ sym (state_after-snoc next reply c.args.start (map (λ a. a.request) (take at rows)) given.request)
    ∙ ap (state_after next reply c.args.start) (sym (map-append (λ a. a.request) (take at rows) (given ∷ []))) ∙ ap (λ r. state_after next reply c.args.start (map (λ a. a.request) r)) (sym more)

pub returns : goal.returns
returns g c =
    let next = g.M.Machine.next c.args.machine.now in
    let reply = g.M.Machine.reply c.args.machine.now in
    c.loop-given.invariant ∙ ap (λ r. state_after next reply c.args.start (map (λ a. a.request) r)) (take_all c.loop-given.given-index c.args.answered.now c.loop-given-test.false)
