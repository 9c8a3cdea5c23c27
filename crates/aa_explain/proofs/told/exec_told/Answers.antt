use Rattle.std.proofs.Common.{◌∙◌}
use Rattle.std.proofs.lemmas.Result.{IfOk-weaker}
use Rattle.aa_compile.specs.Matched.{files_at}
use Rattle.aa_explain.proofs.Meeting.{executions_told}
use Rattle.aa_explain.proofs.told.exec_told.Goals as goal

pub returns : goal.returns
returns c =
    IfOk-weaker c.exec_told_by.result _ _
    (λ told e.
    e
    ∙ executions_told c.args.path.now c.args.owned c.files_of-rules.result.now (files_at c.args.compiled.now.profiles c.args.number) c.as_slice-found.result.now c.files_of-rules.ensures
    (c.as_slice-found.ensures.value ∙ c.in_ok-numbers.ensures) c.is_told_literally-literally.result c.is_told_literally-literally.ensures)
    c.exec_told_by.ensures
