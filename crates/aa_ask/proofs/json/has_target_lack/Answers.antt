use Rattle.std.proofs.Common.{sym, ◌∙◌}
use Rattle.aa_ask.proofs.Views.{any_lack_at_target}
use Rattle.aa_ask.proofs.json.has_target_lack.Goals as goal

pub returns : goal.returns
returns c = c.lacks_at_target.ensures ∙ sym (any_lack_at_target c.args.lacking.now)
