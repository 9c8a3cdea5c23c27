use Rattle.std.proofs.Common.{sym, subst}
use Rattle.std.specs.Prelude.{IfOk}
use Rattle.aa_base.specs.declared.fault.PolicyKind.{PolicyKind}
use Rattle.aa_files.specs.Texts.{texts, slices}
use Rattle.aa_load.specs.UnitPolicy.{limit_of, IsFaultOfUnit}
use Rattle.aa_diagnostics.specs.Further.{IsFurther, ShowsEarlier}
use Rattle.aa_diagnostics.proofs.OfUnit.{shows_set, shows_named, shows_clash, shows_own_clash}
use Rattle.aa_diagnostics.proofs.further.further_of.Goals as goal

pub returns-in-VariableTwice-clause-earlier : goal.returns-in-VariableTwice-clause-earlier
returns-in-VariableTwice-clause-earlier c =
    let u = c.args.unit.now in
    let limit = limit_of c.args.states in
    let at = c.args.at in
    let lines = c.set_lines.ensures in
    subst (λ (k : PolicyKind). IfOk c.unless_refused.result (λ found. IsFaultOfUnit limit u (record { kind = k; at = at }) → ShowsEarlier u at (texts found.items) k)) (sym c.in-VariableTwice.is)
    (shows_set limit u at c.set_lines.result c.unless_refused.result c.unless_refused.ensures lines.refused lines.twice)

pub returns-in-DuplicateProfile-clause-earlier : goal.returns-in-DuplicateProfile-clause-earlier
returns-in-DuplicateProfile-clause-earlier c =
    let u = c.args.unit.now in
    let limit = limit_of c.args.states in
    let at = c.args.at in
    let out = c.unless_refused-in-DuplicateProfile in
    let lines = c.earlier_lines.ensures in
    subst (λ (k : PolicyKind). IfOk out.result (λ found. IsFaultOfUnit limit u (record { kind = k; at = at }) → ShowsEarlier u at (texts found.items) k)) (sym c.in-DuplicateProfile.is)
    (shows_named limit u at c.earlier_lines.result out.result out.ensures lines.refused lines.twice)

pub returns-in-ConflictingExec-clause-further : goal.returns-in-ConflictingExec-clause-further
returns-in-ConflictingExec-clause-further c =
    let u = c.args.unit.now in
    let at = c.args.at in
    let out = c.unless_refused-in-ConflictingExec in
    let lines = c.conflict_lines.ensures in
    subst (λ (k : PolicyKind). IfOk out.result (λ found. IsFurther u (slices c.args.folders.now) c.args.states at (texts found.items) k)) (sym c.in-ConflictingExec.is)
    (shows_clash (limit_of c.args.states) u at c.conflict_lines.result out.result out.ensures lines.refused lines.shown)

pub returns-in-ConflictingExec-clause-earlier : goal.returns-in-ConflictingExec-clause-earlier
returns-in-ConflictingExec-clause-earlier c =
    let u = c.args.unit.now in
    let limit = limit_of c.args.states in
    let at = c.args.at in
    let out = c.unless_refused-in-ConflictingExec in
    let lines = c.conflict_lines.ensures in
    subst (λ (k : PolicyKind). IfOk out.result (λ found. IsFaultOfUnit limit u (record { kind = k; at = at }) → ShowsEarlier u at (texts found.items) k)) (sym c.in-ConflictingExec.is)
    (shows_own_clash limit u at c.conflict_lines.result out.result out.ensures lines.refused lines.own)
