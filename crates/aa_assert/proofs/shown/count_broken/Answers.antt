use Rattle.std.proofs.Common.{◌∙◌}
use Rattle.aa_assert.specs.Shown.{is_broken}
use Rattle.aa_assert.proofs.Counting.{count_answered}
use Rattle.aa_assert.proofs.shown.count_broken.Goals as goal

pub returns : goal.returns
returns c = c.count_if_broken.ensures ∙ count_answered is_broken c.args.answers.now
