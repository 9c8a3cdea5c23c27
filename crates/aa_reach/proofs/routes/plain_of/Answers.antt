use Rattle.std.proofs.Common.{◌≡◌, sym, ◌∙◌}
use Rattle.std.proofs.lemmas.Result.{IfOk-weaker}
use Rattle.aa_model.specs.declared.request.Request.{Request}
use Rattle.aa_reach.specs.Routes.{plain}
use Rattle.aa_reach.proofs.Telling.{plain_as_is}
use Rattle.aa_reach.proofs.routes.plain_of.Goals as goal

pub returns-in_default : goal.returns-in_default
returns-in_default c =
    let ps = c.args.policies.now in
    let l = c.args.label in
    let asked = c.args.request.now in
    IfOk-weaker c.try_clone.result (λ (r : Request). r ≡ asked) (λ (r : Request). r ≡ plain ps l asked)
    (λ r is. is ∙ sym (plain_as_is ps l asked c.in_default.not-Exec)) c.try_clone.ensures.same
