use Rattle.std.proofs.Common.{◌≡◌, ℕ, List, map, ap, ◌∙◌}
use Rattle.std.proofs.lemmas.Result.{IfOk-weaker}
use Rattle.aa_files.specs.Texts.{texts}
use Rattle.aa_command.specs.declared.output.Output.{Output}
use Rattle.aa_command.specs.Printed.{printed}
use Rattle.aa_passed_over.specs.Apart.{ApartRule, apart}
use Rattle.aa_diff.specs.declared.finding.Finding.{Finding}
use Rattle.aa_diff.specs.Accepted.{findings_left, rules_left}
use Rattle.aa_diff.specs.Order.{in_order}
use Rattle.aa_diff.specs.Untold.{doubts_data}
use Rattle.aa_diff.specs.Command.{reported, reported_but}
use Rattle.aa_diff.proofs.command.print_but.Goals as goal

pub returns : goal.returns
returns c =
    let o = c.args.options.now in
    let accepted = texts o.accepted.now in
    let a = doubts_data c.args.doubts.now in
    let ps = c.args.policies.now in
    let all = c.args.findings.now in
    let each = map apart c.args.rules.now in
    let fs = in_order ps (findings_left ps o.wanted accepted all) in
    let rs = rules_left ps o.wanted accepted each in
    let gone = c.in_ok-gone.gone.items in
    IfOk-weaker c.print_found.result (λ (out : Output). printed out ≡ reported o ps c.as_slice.result.now (map apart c.as_slice-2.result.now) gone a)
    (λ (out : Output). printed out ≡ reported_but o accepted ps all each a)
    (λ out is. is ∙ (ap (λ (xs : List Finding). reported o ps xs (map apart c.as_slice-2.result.now) gone a) (c.as_slice.ensures.value ∙ (c.in_ok-findings.ensures ∙ ap (in_order ps) c.in_ok-left.ensures))
    ∙ (ap (λ (xs : List ApartRule). reported o ps fs xs gone a) (ap (map apart) c.as_slice-2.ensures.value ∙ c.in_ok-rules.ensures)
    ∙ ap (λ (text : List ℕ). reported o ps fs rs text a) c.in_ok-gone.ensures)))
    c.print_found.ensures
