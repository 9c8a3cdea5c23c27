use Rattle.std.proofs.Common.{◌∙◌}
use Rattle.aa_faults.proofs.Parting.{any_at}
use Rattle.aa_faults.proofs.statements.has_word_at.Goals as goal

pub returns : goal.returns
returns c = c.is_one_at.ensures ∙ any_at c.args.at c.args.words.now
