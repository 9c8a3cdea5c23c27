use Rattle.std.proofs.Common.{sym, ◌∙◌}
use Rattle.aa_ask.proofs.Views.{any_at_target}
use Rattle.aa_ask.proofs.json.has_target_decider.Goals as goal

pub returns : goal.returns
returns c = c.decides_at_target.ensures ∙ sym (any_at_target c.args.lines.now)
