use Rattle.std.proofs.Common.{ap, ◌∙◌, ◌++◌, append_assoc, codes}
use Rattle.std.proofs.lemmas.Result.{on_ok_weaker}
use Rattle.aa_assert.specs.Findings.{found}
use Rattle.aa_assert.specs.Shown.{by_line}
use Rattle.aa_assert.specs.Gcc.{apart_note}
use Rattle.aa_assert.proofs.gcc.push_apart_note.Goals as goal

pub returns : goal.returns
unfolding apart_note
returns c =
    let by = by_line (found c.args.finding.now) in
    on_ok_weaker c.push_by_line.result
    (λ e. e ∙ ap (λ x. x ++ by) c.in_ok-push_text.ensures ∙ append_assoc c.args.out.now.items (codes "only at unclean paths: ") by) c.push_by_line.ensures
