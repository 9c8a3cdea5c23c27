use Rattle.std.proofs.Common.{◌≡◌, List, map, ap, ◌∙◌}
use Rattle.std.proofs.lemmas.Result.{IfOk-weaker}
use Rattle.aa_files.specs.Texts.{texts}
use Rattle.aa_command.specs.declared.output.Output.{Output}
use Rattle.aa_command.specs.Printed.{printed}
use Rattle.aa_passed_over.specs.Apart.{ApartRule, apart}
use Rattle.aa_diff.specs.declared.finding.Finding.{Finding}
use Rattle.aa_diff.specs.Report.{lines_of}
use Rattle.aa_diff.specs.Unclean.{all_told_unclean}
use Rattle.aa_diff.specs.Untold.{doubts_data}
use Rattle.aa_diff.specs.Command.{reported_but, printed_lines}
use Rattle.aa_diff.proofs.command.print_decided.Goals as goal

pub returns : goal.returns
returns c =
    let o = c.args.options.now in
    let accepted = texts o.accepted.now in
    let d = c.args.old in
    let e = c.args.new in
    let a = doubts_data c.args.doubts.now in
    let rs = map apart c.as_slice-2.result.now in
    IfOk-weaker c.print_but.result (λ (out : Output). printed out ≡ reported_but o accepted d.policies.now c.as_slice.result.now rs a)
    (λ (out : Output). printed out ≡ printed_lines o d e c.args.differences.now a)
    (λ out is. is ∙ (ap (λ (fs : List Finding). reported_but o accepted d.policies.now fs rs a) (c.as_slice.ensures.value ∙ (c.in_ok-findings.ensures ∙ ap (all_told_unclean o.unclean) c.in_ok-lines.ensures))
    ∙ ap (λ (xs : List ApartRule). reported_but o accepted d.policies.now (all_told_unclean o.unclean (lines_of d e c.args.differences.now)) xs a) (ap (map apart) c.as_slice-2.ensures.value ∙ c.in_ok-rules.ensures)))
    c.print_but.ensures
