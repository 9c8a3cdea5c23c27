use Rattle.std.proofs.Common.{◌∙◌}
use Rattle.aa_jobs.proofs.Looks.{only_keyed}
use Rattle.aa_jobs.proofs.keyed.members_fit.Goals as goal

pub returns : goal.returns
returns c = c.only_known.ensures ∙ only_keyed c.args.part c.args.members.now
