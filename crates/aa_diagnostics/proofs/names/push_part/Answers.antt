use Rattle.std.proofs.Common.{sym}
use Rattle.std.proofs.lemmas.List.{append-nil}
use Rattle.std.proofs.lemmas.Result.{err_from_is_err_and}
use Rattle.aa_policy.proofs.Refusals.{refused_by}
use Rattle.aa_policy.specs.Bodies.{Stated, Held}
use Rattle.aa_policy.proofs.Profiles.{no_child_part, no_part}
use Rattle.aa_diagnostics.proofs.names.push_part.Goals as goal

pub returns-in_err-next-clause-refused : goal.returns-in_err-next-clause-refused
returns-in_err-next-clause-refused c = λ h.
    let q = err_from_is_err_and c.from_residual.result c.from_residual.ensures.1 in
    no_child_part _ c.if-begins_profile.ensures.yes (c.in_err-next.ensures.refused (refused_by c.from_residual.result _ _ q.1 q.2 h))

pub returns-then-begins_profile-clause-found : goal.returns-then-begins_profile-clause-found
returns-then-begins_profile-clause-found c =
    let child = c.in_ok-next.ensures.found in
    (Held child.0, child.1, child.2)

pub returns-in_err-next-2-clause-refused : goal.returns-in_err-next-2-clause-refused
returns-in_err-next-2-clause-refused c = λ h. no_part _ c.if-begins_profile.ensures.no c.in_err-next-2.ensures.refused

pub returns-clause-found : goal.returns-clause-found
returns-clause-found c =
    let statement = c.in_ok-next-2.ensures.found in
    (Stated statement.0, statement.1, sym (append-nil _))
