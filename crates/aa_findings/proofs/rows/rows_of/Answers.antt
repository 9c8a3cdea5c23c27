use Rattle.std.proofs.Common.{List, Result, Ok, Err, subst}
use Rattle.std.specs.Result.{IfErr, IsErrAnd}
use Rattle.aa_model.specs.declared.rule.FileRule.{FileRule}
use Rattle.aa_findings.specs.Rows.{HasNoRows}
use Rattle.aa_findings.proofs.Standing.{rows_are}
use Rattle.aa_findings.proofs.rows.rows_of.Goals as goal

handed_on : {T E : Type 0} (r : Result T E) (P Q : E → Type 0) → IsErrAnd r P → ((y : E) → P y → Q y) → IfErr r Q
handed_on (Ok t) P Q a h = tt
handed_on (Err e) P Q a h = h e a

pub returns-clause-rows : goal.returns-clause-rows
returns-clause-rows c =
    rows_are c.args.profile.now.files c.as_slice.result.now c.in_ok-all.all c.in_ok-regions.regions.items c.as_slice-2.result.now c.in_ok-rows_by.field-0.items
    c.as_slice.ensures c.in_ok-all.ensures c.in_ok-regions.ensures.regions c.as_slice-2.ensures.value c.in_ok-rows_by.ensures

pub returns-in_err-regions-clause-many : goal.returns-in_err-regions-clause-many
returns-in_err-regions-clause-many c =
    handed_on c.from_residual-in_err-regions.result _ _ c.from_residual-in_err-regions.ensures.1
    (λ y p. rw p (subst (λ (fs : List FileRule). HasNoRows fs c.args.limit c.in_err-regions.field-0.0) c.as_slice.ensures c.in_err-regions.ensures.many))
