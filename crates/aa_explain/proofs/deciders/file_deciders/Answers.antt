use Rattle.std.proofs.Common.{◌<◌, map, ap, ◌∙◌, arith}
use Rattle.std.proofs.lemmas.Result.{IfOk-weaker}
use Rattle.aa_explain.specs.declared.deciders.Listed.TheVariants.{Files}
use Rattle.aa_compile.specs.Matched.{files_at}
use Rattle.aa_explain.specs.Sayings.{file_saying}
use Rattle.aa_explain.specs.Told.{reasons_told}
use Rattle.aa_explain.proofs.Speaking.{told_is}
use Rattle.aa_explain.proofs.deciders.file_deciders.Goals as goal

pub returns : goal.returns
returns c =
    let ss = map (file_saying c.args.path.now c.args.owned) (files_at c.args.compiled.now.profiles c.args.number) in
    let small : c.args.asked.0 < 256 = omega arith in
    IfOk-weaker c.deciders_by.result _ _
    (λ d e. e ∙ ap (λ ts. reasons_told Files ts c.args.asked.0) (c.as_slice.ensures.value ∙ c.in_ok-told.ensures) ∙ told_is Files ss c.args.asked.0 small)
    c.deciders_by.ensures
