use Rattle.std.proofs.Common.{◌≡◌, ap, ◌∙◌, ◌++◌, append_assoc, codes}
use Rattle.std.proofs.lemmas.Result.{on_ok_weaker}
use Rattle.aa_text.specs.Visible.{all_visible}
use Rattle.aa_report.specs.Accepted.{gone_text}
use Rattle.aa_report.proofs.accepted.push_gone.Goals as goal

pub returns : goal.returns
unfolding gone_text
returns c =
    let out = c.args.out.now.items in
    let line = all_visible c.args.line.now in
    let joined : ((out ++ codes "warning: accepted and not found: ") ++ line) ++ codes "\n" ≡ out ++ gone_text c.args.line.now = simp append_assoc in
    on_ok_weaker c.push_text-2.result
    (λ e. e ∙ ap (λ x. x ++ codes "\n") (c.in_ok-push_visible.ensures ∙ ap (λ x. x ++ line) c.in_ok-push_text.ensures) ∙ joined)
    c.push_text-2.ensures
