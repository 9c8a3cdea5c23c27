use Rattle.std.proofs.Common.{◌∙◌}
use Rattle.aa_undecided.specs.Command.{is_denied}
use Rattle.aa_undecided.proofs.Views.{any_answered}
use Rattle.aa_undecided.proofs.command.is_one_denied.Goals as goal

pub returns : goal.returns
returns c = c.one_is_denied.ensures ∙ any_answered is_denied c.args.answers.now
