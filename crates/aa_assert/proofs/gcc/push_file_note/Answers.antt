use Rattle.std.proofs.Common.{◌≡◌, ap, ◌∙◌, ◌++◌, append_assoc, codes}
use Rattle.std.proofs.lemmas.Result.{on_ok_weaker}
use Rattle.aa_text.specs.Visible.{all_visible}
use Rattle.aa_undecided.specs.Answers.{placed_data}
use Rattle.aa_assert.specs.Gcc.{file_note}
use Rattle.aa_assert.proofs.gcc.push_file_note.Goals as goal

pub returns : goal.returns
unfolding file_note
returns c =
    let out = c.args.out.now.items in
    let path = all_visible c.args.file.now.path.items in
    let joined : ((out ++ codes "refused, so that ") ++ path) ++ codes " could decide it" ≡ out ++ file_note (placed_data c.args.file.now) =
    simp append_assoc in
    on_ok_weaker c.push_text-2.result
    (λ e. e
    ∙ ap (λ x. x ++ codes " could decide it")
    (c.in_ok-push_visible.ensures ∙ ap (λ p. c.push_text.new.out.items ++ all_visible p) c.as_slice.ensures.value
    ∙ ap (λ x. x ++ path) c.in_ok-push_text.ensures)
    ∙ joined)
    c.push_text-2.ensures
