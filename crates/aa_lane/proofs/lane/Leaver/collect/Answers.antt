use Rattle.std.proofs.Common.{◌++◌, ap, ◌∙◌}
use Rattle.aa_lane.specs.Ends.{OwnerSeen}
use Rattle.aa_lane.specs.Answers.{collected_by, look}
use Rattle.aa_lane.proofs.Given.{look_collected}
use Rattle.aa_lane.proofs.lane.Leaver.collect.Goals as goal

pub returns-clause-collected : goal.returns-clause-collected
returns-clause-collected g c =
    look_collected g.M.Machine.next g.M.Machine.reply c.args.lane.now c.self.inside.owner c.collect.new.self c.collect.result c.collect.ensures.look
    ∙ ap (λ (o : OwnerSeen g.row.M.Denot g.row.M-State.Denot g.row.M-Request.Denot g.row.M-Answer.Denot). collected_by g.M.Machine.next g.M.Machine.reply c.args.lane.now o ++ look c.collect.result) c.self.view_is
