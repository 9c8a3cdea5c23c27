use Rattle.std.proofs.Common.{◌≡◌, List, ap, ◌∙◌}
use Rattle.std.proofs.lemmas.Result.{IfOk-weaker}
use Rattle.aa_command.specs.declared.output.Output.{Output}
use Rattle.aa_command.specs.Printed.{printed}
use Rattle.aa_differences.specs.declared.at_labels.Difference.{Difference}
use Rattle.aa_differences.specs.declared.comparison.UntoldLabels.{UntoldLabels}
use Rattle.aa_diff.specs.Untold.{AllUntold, doubts_data, decided_of, all_untold}
use Rattle.aa_diff.specs.Command.{printed_lines, compared}
use Rattle.aa_diff.proofs.command.print_differences.Goals as goal

pub returns : goal.returns
returns c =
    let o = c.args.options.now in
    let limit = c.args.limit in
    let d = c.args.old in
    let e = c.args.new in
    let xs = c.args.found.differences.items in
    let us = c.args.found.untold.items in
    let a = doubts_data c.in_ok-doubts.doubts in
    let told = c.in_ok-doubts.ensures ∙ ap (all_untold o.wanted limit d e) c.as_slice-untold.ensures.value in
    IfOk-weaker c.print_decided.result (λ (out : Output). printed out ≡ printed_lines o d.decided e.decided c.as_slice.result.now a)
    (λ (out : Output). printed out ≡ compared o limit d e xs us)
    (λ out is. is ∙ (ap (λ (ds : List Difference). printed_lines o d.decided e.decided ds a) (c.as_slice.ensures.value ∙ c.in_ok-decided.ensures)
    ∙ ap (printed_lines o d.decided e.decided (decided_of d e xs)) told)) c.print_decided.ensures
