use Rattle.std.proofs.Common.{◌≡◌, ap, ◌∙◌, ◌++◌, append_assoc, codes}
use Rattle.std.proofs.lemmas.Result.{on_ok_weaker}
use Rattle.aa_text.specs.Visible.{all_visible}
use Rattle.aa_text.specs.Nearest.{nearest_name}
use Rattle.aa_lint.specs.Names.{all_names}
use Rattle.aa_lint.specs.Command.{meant_part, no_name}
use Rattle.aa_lint.proofs.command.push_no_name.Goals as goal

pub returns : goal.returns
unfolding no_name
returns c =
    let out = c.args.out.now.items in
    let name = all_visible c.args.name.now in
    let meant = meant_part (nearest_name all_names c.args.name.now) in
    let joined : (((out ++ codes "error: no finding is called so: ") ++ name) ++ meant) ++ codes "\n" ≡ out ++ no_name c.args.name.now = simp append_assoc in
    on_ok_weaker c.push_text-2.result
    (λ e. e
    ∙ ap (λ x. x ++ codes "\n") (c.in_ok-push_meant.ensures ∙ ap (λ x. x ++ meant) (c.in_ok-push_visible.ensures ∙ ap (λ x. x ++ name) c.in_ok-push_text.ensures))
    ∙ joined)
    c.push_text-2.ensures
