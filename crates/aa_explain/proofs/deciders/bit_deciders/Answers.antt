use Rattle.std.proofs.Common.{ap, ◌∙◌, lit<}
use Rattle.std.proofs.lemmas.Result.{IfOk-weaker}
use Rattle.aa_explain.specs.Told.{reasons_told}
use Rattle.aa_explain.proofs.Speaking.{told_is}
use Rattle.aa_explain.proofs.deciders.bit_deciders.Goals as goal

pub returns : goal.returns
returns c =
    IfOk-weaker c.deciders_by.result _ _
    (λ d e. e ∙ ap (λ ts. reasons_told c.args.listed ts 1) (c.as_slice.ensures.value ∙ c.in_ok-told.ensures) ∙ told_is c.args.listed c.args.sayings.now 1 (lit< tt))
    c.deciders_by.ensures
