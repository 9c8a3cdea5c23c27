use Rattle.std.proofs.Common.{ap, ◌∙◌}
use Rattle.aa_lane.specs.Ends.{OwnerSeen}
use Rattle.aa_lane.specs.Answers.{collected_by}
use Rattle.aa_lane.proofs.Given.{send_collected}
use Rattle.aa_lane.proofs.lane.Owner.send.Goals as goal

pub returns-clause-collected : goal.returns-clause-collected
returns-clause-collected g c =
    let e = c.send.ensures in
    send_collected g.M.Machine.next g.M.Machine.reply c.args.lane.now c.self.inside.end c.send.new.self c.args.request c.send.result e.accepted e.unsent e.gotten
    ∙ ap (λ (o : OwnerSeen g.row.M.Denot g.row.M-State.Denot g.row.M-Request.Denot g.row.M-Answer.Denot). collected_by g.M.Machine.next g.M.Machine.reply c.args.lane.now o) c.self.view_is
