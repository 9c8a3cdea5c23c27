use Rattle.std.proofs.lemmas.Result.{err_from_is_err_and}
use Rattle.aa_policy.proofs.Profiles.{no_child_part, no_part}
use Rattle.aa_policy.proofs.Refusals.{refused_by}
use Rattle.aa_policy.proofs.bodies.body_part_of.Goals as goal

pub returns-in_err-child-clause-refused : goal.returns-in_err-child-clause-refused
returns-in_err-child-clause-refused c = λ h.
    let q = err_from_is_err_and c.from_residual.result c.from_residual.ensures.1 in
    no_child_part _ c.if-begins_profile.ensures.yes (c.in_err-child.ensures.refused (refused_by c.from_residual.result _ _ q.1 q.2 h))

pub returns-in_err-statement-clause-refused : goal.returns-in_err-statement-clause-refused
returns-in_err-statement-clause-refused c = λ h. no_part _ c.if-begins_profile.ensures.no c.in_err-statement.ensures.refused
