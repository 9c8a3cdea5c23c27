use Rattle.std.proofs.Common.{List, Bor, map, subst}
use Rattle.std.proofs.lemmas.Result.{IfOk-weaker}
use Rattle.aa_files.specs.Texts.{slices}
use Rattle.aa_files.specs.declared.unit.Source.{Source}
use Rattle.aa_command.specs.declared.output.Output.{Output}
use Rattle.aa_command.specs.Printed.{printed}
use Rattle.aa_command.specs.Refusals.{SaysUnitFault}
use Rattle.aa_job.specs.Command.{IsSourcesOutput, IsUnitsOutput, Otherwise, Shared}
use Rattle.aa_job.proofs.command.job_of_units.Goals as goal

pub returns-in-Ok : goal.returns-in-Ok
returns-in-Ok g c =
    let lying = g.R.Logs.lying c.args.reader.now in
    let folders = slices c.args.settings.now.folders.now in
    let states = c.args.settings.now.states in
    let o = c.args.options.now in
    let us = c.args.units.now in
    IfOk-weaker c.job_of_sources.result (λ (out : Output). IsSourcesOutput folders states lying o us (map (λ s. s.now) c.as_slice.result.now) (printed out)) (λ (out : Output). IsUnitsOutput folders states lying o us (printed out))
    (λ out p. Shared (map (λ s. s.now) c.in-Ok.sources.items) c.in-Ok.ensures.shared
    (subst (λ (l : List (Bor Source)). IsSourcesOutput folders states lying o us (map (λ s. s.now) l)
    (printed out)) c.as_slice.ensures.value p)) c.job_of_sources.ensures

pub returns-in-Err : goal.returns-in-Err
returns-in-Err g c =
    let e = c.in-Err.fault in
    IfOk-weaker c.unit_refused.result (λ (out : Output). SaysUnitFault e (printed out))
    (λ (out : Output). IsUnitsOutput (slices c.args.settings.now.folders.now) c.args.settings.now.states
    (g.R.Logs.lying c.args.reader.now) c.args.options.now c.args.units.now (printed out))
    (λ out says. Otherwise e c.in-Err.ensures.refused says) c.unit_refused.ensures
