use Rattle.std.proofs.Common.{Result, Err, sym, ap, subst, ◌∙◌}
use Rattle.json.specs.Value.{value_view}
use Rattle.aa_merge.specs.declared.fault.PartFault.{PartFault}
use Rattle.aa_merge.specs.Held.{part_data}
use Rattle.aa_merge.specs.Parts.{Report}
use Rattle.aa_merge.specs.Steps.{Gives}
use Rattle.aa_merge.proofs.Documents.{read_so, refused_so}
use Rattle.aa_merge.proofs.reading.read_part.Goals as goal

pub returns-in-Ok : goal.returns-in-Ok
returns-in-Ok c =
    let ok = c.in-Ok.ensures.ok in
    subst (λ (given : Result Report PartFault). Gives part_data c.report.result given)
    (sym (read_so c.args.bytes.now (value_view c.in-Ok.value) ok.0 ok.1)) c.report.ensures

pub returns : goal.returns
returns c = refused_so c.args.bytes.now c.in-Err.error c.fault_of.result (λ is. c.from_slice.ensures.invalid (c.in-Err.is ∙ ap Err is)) c.fault_of.ensures
