use Rattle.aa_pool.proofs.Answering.{collected}
use Rattle.aa_pool.proofs.feed.collect.Goals as goal

pub returns-in-Some-clause-fed : goal.returns-in-Some-clause-fed
returns-in-Some-clause-fed g c = rw c.push_reserved.ensures.items
    (collected g.M.Machine.next g.M.Machine.reply c.args.lane.now c.args.owner.now c.collect.new.self c.args.answered.now.items c.in-Some.given c.requires.fed c.in-Some.ensures.look c.in-Some.ensures.collected)
