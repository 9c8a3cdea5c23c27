use Rattle.std.proofs.lemmas.Result.{err_from_is_err_and}
use Rattle.aa_policy.proofs.Profiles.{no_profile_head, no_profile_body}
use Rattle.aa_policy.proofs.Refusals.{refused_by}
use Rattle.aa_policy.proofs.bodies.profile_of.Goals as goal

pub returns-in_err-head-clause-refused : goal.returns-in_err-head-clause-refused
returns-in_err-head-clause-refused c = λ h. no_profile_head _ c.in_err-head.ensures.refused

pub returns-in_err-body-clause-refused : goal.returns-in_err-body-clause-refused
returns-in_err-body-clause-refused c = λ h.
    let q = err_from_is_err_and c.from_residual-in_err-body.result c.from_residual-in_err-body.ensures.1 in
    no_profile_body _ _ _ c.in_ok-head.ensures.found (c.in_err-body.ensures.refused (refused_by c.from_residual-in_err-body.result _ _ q.1 q.2 h))
