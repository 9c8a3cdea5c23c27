use Rattle.std.proofs.Common.{Bool, cond, ap, ◌∙◌}
use Rattle.aa_ask.proofs.Denials.{any_told}
use Rattle.aa_ask.proofs.command.status_of.Goals as goal

pub returns-then-is_one_denied : goal.returns-then-is_one_denied
returns-then-is_one_denied c = ap (λ (b : Bool). cond b 4 0) (c.if-is_one_denied.ensures ∙ any_told c.args.verdicts.now)

pub returns-else-is_one_denied : goal.returns-else-is_one_denied
returns-else-is_one_denied c = ap (λ (b : Bool). cond b 4 0) (c.if-is_one_denied.ensures ∙ any_told c.args.verdicts.now)
