use Rattle.std.proofs.Common.{inl}
use Rattle.std.proofs.lemmas.Result.{err_from_is_err_and}
use Rattle.aa_policy.proofs.Refusals.{handed_on}
use Rattle.aa_policy.proofs.changes.aimed_pattern.Goals as goal

pub returns-in_err-pattern_of-in-Some-clause-refused : goal.returns-in_err-pattern_of-in-Some-clause-refused
returns-in_err-pattern_of-in-Some-clause-refused c =
    let r = c.from_residual in
    let q = err_from_is_err_and r.result r.ensures.1 in
    handed_on r.result _ _ _ q.1 q.2 (λ h vars. rw (c.in-Some.is) (inl (c.in_err-pattern_of-in-Some.ensures.refused h vars)))
