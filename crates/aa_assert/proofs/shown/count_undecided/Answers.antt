use Rattle.std.proofs.Common.{◌∙◌}
use Rattle.aa_assert.specs.Shown.{is_undecided}
use Rattle.aa_assert.proofs.Counting.{count_answered}
use Rattle.aa_assert.proofs.shown.count_undecided.Goals as goal

pub returns : goal.returns
returns c = c.count_if_undecided.ensures ∙ count_answered is_undecided c.args.answers.now
