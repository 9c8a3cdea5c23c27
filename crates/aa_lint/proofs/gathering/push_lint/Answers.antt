use Rattle.std.proofs.Common.{List, ap, ◌∙◌}
use Rattle.aa_files.specs.Texts.{texts}
use Rattle.aa_findings.specs.declared.finding.Finding.{Finding}
use Rattle.aa_lint.specs.Lint.{lint_data, with_found, Found, Unfound}
use Rattle.aa_lint.proofs.gathering.push_lint.Goals as goal

pub returns-in_ok-push_found-in-Ok : goal.returns-in_ok-push_found-in-Ok
returns-in_ok-push_found-in-Ok c =
    let except = texts c.args.except.now in
    let was = lint_data c.args.lint.now in
    Found c.in-Ok.findings.items c.in-Ok.ensures.found
    (c.in_ok-push_found-in-Ok.ensures
    ∙ ap (λ (l : List Finding). with_found c.args.decided except c.args.number c.args.profile.now l was) c.as_slice.ensures.value)

pub returns-in_ok-push_unfound-in-Err : goal.returns-in_ok-push_unfound-in-Err
returns-in_ok-push_unfound-in-Err c =
    Unfound c.in-Err.fault c.in-Err.ensures.many c.in_ok-push_unfound-in-Err.ensures
