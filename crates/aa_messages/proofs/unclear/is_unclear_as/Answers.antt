use Rattle.std.proofs.Common.{◌≡◌, Bool, true, false, ◌&&◌, refl, sym, ap, ◌∙◌}
use Rattle.aa_logs.specs.Outcomes.{outcome}
use Rattle.aa_logs.specs.Records.{line_in}
use Rattle.aa_messages.specs.Unclear.{may_hide, is_another, is_unclear}
use Rattle.aa_messages.proofs.unclear.is_unclear_as.Goals as goal

and_false : (b : Bool) → false ≡ (b && false)
and_false true = refl
and_false false = refl

pub returns-else-is_another : goal.returns-else-is_another
unfolding is_unclear
returns-else-is_another c =
    let line = c.args.line.now in
    let known : is_another (line_in line) ≡ false = ap is_another (sym c.requires) ∙ sym c.is_another.ensures ∙ c.if-is_another.false in
    c.if-is_another.false ∙ and_false (may_hide line) ∙ ap (λ (b : Bool). may_hide line && b) (sym known)
