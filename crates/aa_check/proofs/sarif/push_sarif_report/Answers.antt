use Rattle.std.proofs.Common.{◌++◌, List, ap, ◌∙◌}
use Rattle.std.proofs.lemmas.Result.{on_ok_weaker}
use Rattle.aa_check.specs.declared.report.FileReport.{FileReport}
use Rattle.aa_check.specs.Sarif.{results_member}
use Rattle.aa_check.specs.Notified.{notified}
use Rattle.aa_check.proofs.Pieces.{report_pieces}
use Rattle.aa_check.proofs.sarif.push_sarif_report.Goals as goal

pub returns : goal.returns
returns c =
    on_ok_weaker c.push_text.result (report_pieces c.args.report.now c.args.out.now.items c.push_sarif_head.new.out.items c.push_results.new.out.items c.push_member.new.out.items c.push_text.new.out.items
    c.run_of-run.result.is_successful (notified c.run_of-run.result.warnings.now) c.run_of-run.ensures.success
    (ap notified (c.run_of-run.ensures.warnings ∙ c.as_slice-2.ensures.value) ∙ c.in_ok-warnings.ensures) c.in_ok-push_sarif_head.ensures
    (c.in_ok-push_results.ensures ∙ ap (λ (files : List FileReport). c.push_sarif_head.new.out.items ++ results_member files) c.as_slice.ensures.value) c.in_ok-push_member.ensures) c.push_text.ensures
