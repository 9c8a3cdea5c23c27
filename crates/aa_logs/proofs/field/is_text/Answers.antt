use Rattle.std.proofs.Common.{◌∙◌}
use Rattle.aa_logs.proofs.Fronts.{text_is}
use Rattle.aa_logs.proofs.field.is_text.Goals as goal

pub returns-then-text-wanted : goal.returns-then-text-wanted
returns-then-text-wanted c = c.begins.ensures.value ∙ text_is c.args.text.now c.args.wanted.now c.if-text-wanted.true
