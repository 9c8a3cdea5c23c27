use Rattle.std.proofs.lemmas.Result.{err_from_is_err_and}
use Rattle.aa_policy.proofs.Profiles.{no_child_head, no_child_body}
use Rattle.aa_policy.proofs.Refusals.{refused_by}
use Rattle.aa_policy.proofs.bodies.child_of.Goals as goal

pub returns-in_err-head-clause-refused : goal.returns-in_err-head-clause-refused
returns-in_err-head-clause-refused c = λ h. no_child_head _ c.in_err-head.ensures.refused

pub returns-in_err-rules-clause-refused : goal.returns-in_err-rules-clause-refused
returns-in_err-rules-clause-refused c = λ h.
    let q = err_from_is_err_and c.from_residual-in_err-rules.result c.from_residual-in_err-rules.ensures.1 in
    no_child_body _ _ _ c.in_ok-head.ensures.found (c.in_err-rules.ensures.refused (refused_by c.from_residual-in_err-rules.result _ _ q.1 q.2 h))
