use Rattle.std.proofs.Common.{◌∙◌}
use Rattle.aa_undecided.specs.Command.{is_open}
use Rattle.aa_undecided.proofs.Views.{any_answered}
use Rattle.aa_undecided.proofs.command.is_one_open.Goals as goal

pub returns : goal.returns
returns c = c.one_is_open.ensures ∙ any_answered is_open c.args.answers.now
