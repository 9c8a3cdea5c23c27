use Rattle.std.proofs.Common.{◌∙◌}
use Rattle.aa_jobs.proofs.Keys.{only_is}
use Rattle.aa_jobs.proofs.shape.members_fit.Goals as goal

pub returns : goal.returns
returns c = c.only_known.ensures ∙ only_is c.args.part c.args.members.now
