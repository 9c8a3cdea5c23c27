use Rattle.std.proofs.Common.{◌≡◌, sym, ◌∙◌}
use Rattle.std.proofs.lemmas.Result.{IfOk-weaker}
use Rattle.aa_model.specs.declared.request.Request.{Request}
use Rattle.aa_assert.specs.Passages.{as_others}
use Rattle.aa_assert.proofs.Passing.{kept_as_is}
use Rattle.aa_assert.proofs.way.as_others.Goals as goal

pub returns-in_default : goal.returns-in_default
returns-in_default c =
    IfOk-weaker c.try_clone.result (λ (r : Request). r ≡ c.args.request.now) (λ (r : Request). r ≡ as_others c.args.request.now)
    (λ r is. is ∙ sym (kept_as_is c.args.request.now c.in_default.not-Exec)) c.try_clone.ensures.same
