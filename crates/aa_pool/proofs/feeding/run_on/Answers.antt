use Rattle.std.proofs.Common.{map, length, ap, ◌∙◌, arith}
use Rattle.std.proofs.lemmas.List.{length-map}
use Rattle.aa_lane.specs.Ends.{known}
use Rattle.aa_lane.specs.Answers.{answered_from}
use Rattle.aa_pool.specs.Fed.{AreAllFed}
use Rattle.aa_pool.proofs.Rows.{same_map, same_machine, of_machine, lanes_known}
use Rattle.aa_pool.proofs.feeding.run_on.Goals as goal

pub finish_all-requires-clause-machine : goal.finish_all-requires-clause-machine
finish_all-requires-clause-machine g c =
    let fed : AreAllFed c.args.feeds.items c.fed_after-feeds.result.0.items = rw c.requires.course at c.fed_after-feeds.ensures.fed in
    same_machine c.args.machine.now c.args.feeds.items c.fed_after-feeds.result.0.items fed.same
    (of_machine c.args.machine.now c.args.lanes.now c.args.feeds.items c.requires.lanes c.requires.machine)

pub returns-clause-answers : goal.returns-clause-answers
returns-clause-answers g c =
    let fed : AreAllFed c.args.feeds.items c.fed_after-feeds.result.0.items = rw c.requires.course at c.fed_after-feeds.ensures.fed in
    c.finish_all.ensures.answers ∙ same_map (λ l all. answered_from g.M.Machine.next g.M.Machine.reply l.machine 0 l.start all)
    c.args.feeds.items c.fed_after-feeds.result.0.items fed.same

pub returns-clause-of : goal.returns-clause-of
returns-clause-of g c =
    let fed : AreAllFed c.args.feeds.items c.fed_after-feeds.result.0.items = rw c.requires.course at c.fed_after-feeds.ensures.fed in
    c.finish_all.ensures.of ∙ same_map (λ l all. known l) c.args.feeds.items c.fed_after-feeds.result.0.items fed.same
    ∙ lanes_known c.args.feeds.items ∙ ap (map known) c.requires.lanes

pub fed_after-feeds-requires-clause-len : goal.fed_after-feeds-requires-clause-len
fed_after-feeds-requires-clause-len g c = omega (arith, ap length c.requires.course, ap length c.requires.lanes, length-map c.args.feeds.items (λ f. f.lane))

pub finish_all-requires-clause-room : goal.finish_all-requires-clause-room
finish_all-requires-clause-room g c =
    let fed : AreAllFed c.args.feeds.items c.fed_after-feeds.result.0.items = rw c.requires.course at c.fed_after-feeds.ensures.fed in
    omega (arith, fed.same.len, ap length c.requires.lanes, length-map c.args.feeds.items (λ f. f.lane), c.fed_after-feeds.result.0.ok, c.requires.room)
