use Rattle.std.proofs.Common.{sym, ◌∙◌}
use Rattle.aa_ask.proofs.Views.{any_denies}
use Rattle.aa_assert.proofs.enforced.is_one_denying.Goals as goal

pub returns : goal.returns
returns c = c.denies_one.ensures ∙ sym (any_denies c.args.deciders.now)
