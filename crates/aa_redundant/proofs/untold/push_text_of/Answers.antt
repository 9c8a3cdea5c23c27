use Rattle.std.proofs.Common.{◌≡◌, ap, ◌∙◌, ◌++◌, append_assoc, codes}
use Rattle.std.proofs.lemmas.Result.{on_ok_weaker}
use Rattle.aa_base.specs.Values.{value}
use Rattle.aa_redundant.specs.Untold.{untold_text}
use Rattle.aa_redundant.proofs.untold.push_text_of.Goals as goal

pub returns : goal.returns
unfolding untold_text
returns c =
    let out = c.args.out.now.items in
    let name = value c.args.name.now in
    let why = c.args.why.now in
    let mid = codes " it can't be told which rules are redundant: " in
    let joined : (((out ++ codes "of ") ++ name) ++ mid) ++ why ≡ out ++ untold_text c.args.name.now why = simp append_assoc in
    on_ok_weaker c.push_text-3.result
    (λ e. e ∙ ap (λ x. x ++ why) (c.in_ok-push_text-2.ensures ∙ ap (λ x. x ++ mid) (c.in_ok-push_name.ensures ∙ ap (λ x. x ++ name) c.in_ok-push_text.ensures)) ∙ joined)
    c.push_text-3.ensures
