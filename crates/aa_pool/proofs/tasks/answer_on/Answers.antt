use Rattle.std.proofs.Common.{◌≡◌, map, sym, ap, ◌∙◌}
use Rattle.aa_lane.specs.Ends.{known, new_owner}
use Rattle.aa_pool.proofs.Closing.{outcomes}
use Rattle.aa_pool.proofs.Rows.{of_machine, all_answers}
use Rattle.aa_pool.proofs.tasks.answer_on.Goals as goal

pub returns-clause-answers : goal.returns-clause-answers
returns-clause-answers g c =
    let next = g.M.Machine.next in
    let reply = g.M.Machine.reply in
    let m = c.args.machine.now in
    let feeds = c.feeds_of-feeds.result.items in
    let opened = c.requires.stage.opened in
    let are : map (λ f. f.lane) c.feeds_of-feeds.result.items ≡ c.args.stage.lanes.items = c.feeds_of-feeds.ensures.lanes_are ∙ c.as_slice.ensures.value in
    let starts : map (λ t. t.start) c.args.tasks.items ≡ map (λ l. l.start) (map (λ f. f.lane) c.feeds_of-feeds.result.items) = sym opened.starts_are ∙ ap (map (λ l. l.start)) (sym are) in
    c.close_all.ensures.answers ∙ c.run_all-finished.ensures.answers ∙ all_answers next reply m feeds c.args.tasks.items c.feeds_of-feeds.ensures.requests_are starts
    (of_machine m c.args.stage.lanes.items feeds are (λ k d below. (opened.terms k d below).0))

pub returns-clause-closed : goal.returns-clause-closed
returns-clause-closed g c =
    outcomes g.M.Machine.next g.M.Machine.reply c.args.machine.now c.args.stage.capacity c.args.stage.lanes.items _ c.close_all.result.items c.requires.stage.opened.starts_are c.requires.stage.opened.terms c.close_all.ensures.closed

pub feeds_of-feeds-requires-clause-owners : goal.feeds_of-feeds-requires-clause-owners
feeds_of-feeds-requires-clause-owners g c = c.requires.stage.opened.owners_are ∙ ap (map new_owner) (sym c.as_slice.ensures.value)

pub feeds_of-feeds-requires-clause-starts : goal.feeds_of-feeds-requires-clause-starts
feeds_of-feeds-requires-clause-starts g c = sym c.requires.stage.opened.starts_are ∙ ap (map (λ l. l.start)) (sym c.as_slice.ensures.value)

pub run_all-finished-requires-clause-machine : goal.run_all-finished-requires-clause-machine
run_all-finished-requires-clause-machine g c κs within = rw c.as_slice-2.ensures.value (λ k d below. (c.requires.stage.opened.terms k d below).0)

pub run_all-finished-requires-clause-lanes : goal.run_all-finished-requires-clause-lanes
run_all-finished-requires-clause-lanes g c κs within = c.feeds_of-feeds.ensures.lanes_are ∙ c.as_slice.ensures.value ∙ sym c.as_slice-2.ensures.value

pub run_all-finished-requires-clause-servers : goal.run_all-finished-requires-clause-servers
run_all-finished-requires-clause-servers g c κs within = c.requires.stage.ends.servers_of ∙ ap (map known) (sym c.as_slice-2.ensures.value)

pub in_order-servers-requires-clause-tags : goal.in_order-servers-requires-clause-tags
in_order-servers-requires-clause-tags g c = rw c.as_slice-3.ensures.value c.requires.stage.opened.tags

pub in_order-servers-requires-clause-servers : goal.in_order-servers-requires-clause-servers
in_order-servers-requires-clause-servers g c = rw (c.as_slice-3.ensures.value, ← c.as_slice-2.ensures.value) c.run_all-finished.ensures.served

pub close_all-requires-clause-owners : goal.close_all-requires-clause-owners
close_all-requires-clause-owners g c = c.run_all-finished.ensures.of ∙ ap (map known) c.as_slice-2.ensures.value

pub close_all-requires-clause-servers : goal.close_all-requires-clause-servers
close_all-requires-clause-servers g c = c.in_order-servers.ensures ∙ ap (map known) c.as_slice-3.ensures.value

pub feeds_of-feeds-requires-clause-capacity : goal.feeds_of-feeds-requires-clause-capacity
feeds_of-feeds-requires-clause-capacity g c = rw c.as_slice.ensures.value (c.requires.stage.fits, λ k d below. (c.requires.stage.opened.terms k d below).1)
