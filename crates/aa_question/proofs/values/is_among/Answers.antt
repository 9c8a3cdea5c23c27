use Rattle.std.proofs.Common.{◌∙◌}
use Rattle.aa_question.proofs.Members.{among_is}
use Rattle.aa_question.proofs.values.is_among.Goals as goal

pub returns : goal.returns
returns c = c.is_any.ensures ∙ among_is c.args.name.now c.args.names.now
