use Rattle.aa_text.specs.declared.fault.FaultReport.{FaultReport}
use Rattle.aa_files.specs.Texts.{texts, slices}
use Rattle.aa_diagnostics.specs.Reports.{IsReport, IsDescribed}
use Rattle.aa_diagnostics.proofs.OfUnit.{if_ok_more}
use Rattle.aa_diagnostics.proofs.described.describe.Goals as goal

pub returns : goal.returns
returns c =
    let u = c.args.unit.now in
    let states = c.args.states in
    let fault = c.args.fault in
    let lines = texts c.in_ok-further.further.items in
    if_ok_more (λ (r : FaultReport). IsReport u states fault lines r) (λ (r : FaultReport). IsDescribed u (slices c.args.folders.now) states fault r) c.report_of.result
    (λ r report. record { lines = lines; are = c.in_ok-further.ensures.further; earlier = c.in_ok-further.ensures.earlier; report = report }) c.report_of.ensures
