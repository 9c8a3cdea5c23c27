use Rattle.std.proofs.Common.{◌∙◌}
use Rattle.aa_who.proofs.Printing.{any_nobodys}
use Rattle.aa_who.proofs.command.has_nobodys.Goals as goal

pub returns : goal.returns
returns c = c.is_one_nobodys.ensures ∙ any_nobodys c.args.answers.now
