use Rattle.std.proofs.Common.{Option, ap, ◌∙◌}
use Rattle.std.proofs.lemmas.Result.{err_from_is_err_and}
use Rattle.std.specs.Prelude.{codes}
use Rattle.aa_base.specs.declared.fault.Spot.{Spot}
use Rattle.aa_policy.proofs.Refusals.{refused_by}
use Rattle.aa_diagnostics.specs.Further.{spot_lines}
use Rattle.aa_diagnostics.proofs.further.earlier_in.Goals as goal

pub returns-in_err-first-clause-refused : goal.returns-in_err-first-clause-refused
returns-in_err-first-clause-refused c = λ h vars tree w.
    let q = err_from_is_err_and c.from_residual.result c.from_residual.ensures.1 in
    c.in_err-first.ensures.refused (refused_by c.from_residual.result _ _ q.1 q.2 h) vars tree w

pub returns-clause-shown : goal.returns-clause-shown
returns-clause-shown c =
    let found = c.in_ok-first.ensures.found in
    (found.0, found.1, found.2, c.in_ok-spot_lines.ensures ∙ ap (λ (o : Option Spot). spot_lines c.args.unit.now (codes "earlier at ") o) found.3)

pub returns-clause-twice : goal.returns-clause-twice
returns-clause-twice c = λ d.
    let first = c.in_ok-first.ensures.repeated d in
    (first.0, first.2, c.in_ok-spot_lines.ensures ∙ ap (λ (o : Option Spot). spot_lines c.args.unit.now (codes "earlier at ") o) first.1)
