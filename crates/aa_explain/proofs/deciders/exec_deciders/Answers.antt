use Rattle.std.proofs.Common.{ap, ◌∙◌}
use Rattle.std.proofs.lemmas.Result.{IfOk-weaker}
use Rattle.aa_compile.specs.Matched.{files_at}
use Rattle.aa_explain.specs.Deciders.{exec_reasons}
use Rattle.aa_explain.specs.Sayings.{exec_sayings}
use Rattle.aa_explain.specs.Told.{exec_reasons_told}
use Rattle.aa_explain.proofs.Speaking.{exec_is}
use Rattle.aa_explain.proofs.deciders.exec_deciders.Goals as goal

pub returns : goal.returns
returns c =
    let files = files_at c.args.compiled.now.profiles c.args.number in
    IfOk-weaker c.exec_deciders_by.result _ _
    (λ d e.
    e
    ∙ ap exec_reasons_told (c.as_slice.ensures.value ∙ c.in_ok-told.ensures)
    ∙ exec_is (exec_sayings c.path.result.now c.owned.result files)
    ∙ ap (λ path. exec_reasons (exec_sayings path c.owned.result files)) c.path.ensures.path
    ∙ ap (λ owned. exec_reasons (exec_sayings c.args.exec.now.path owned files)) c.owned.ensures)
    c.exec_deciders_by.ensures
