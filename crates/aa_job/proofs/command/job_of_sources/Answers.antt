use Rattle.std.proofs.Common.{◌≤◌, List, length, map, subst, arith}
use Rattle.std.proofs.lemmas.List.{length-map}
use Rattle.std.proofs.lemmas.Result.{IfOk-weaker}
use Rattle.std.specs.Prelude.{◌≢◌}
use Rattle.aa_files.specs.Texts.{slices}
use Rattle.aa_base.specs.declared.fault.PolicyKind.TheVariants.{NoMemory}
use Rattle.aa_load.specs.UnitPolicy.{limit_of}
use Rattle.aa_notation.specs.declared.job.JobPolicy.{JobPolicy}
use Rattle.aa_command.specs.declared.output.Output.{Output}
use Rattle.aa_job.specs.declared.policies.Unnamed.{Unnamed}
use Rattle.aa_command.specs.Printed.{printed}
use Rattle.aa_command.specs.Refusals.{SaysPolicyFault}
use Rattle.aa_job.specs.Policies.{IsUnnamed}
use Rattle.aa_job.specs.Command.{IsLogsOutput, IsSourcesOutput, NoPolicy, Policies}
use Rattle.aa_command.proofs.Outputs.{both_said}
use Rattle.aa_job.proofs.command.job_of_sources.Goals as goal

pub returns-in_ok-policies-in-Ok : goal.returns-in_ok-policies-in-Ok
returns-in_ok-policies-in-Ok g c =
    let lying = g.R.Logs.lying c.args.reader.now in
    let states = c.args.settings.now.states in
    let o = c.args.options.now in
    let sources = map (λ s. s.now) c.args.sources.now in
    let few : length sources ≤ 4095 = omega (arith, length-map c.args.sources.now (λ s. s.now), c.if-sources-gt-MOST_INCLUDES.false) in
    IfOk-weaker c.job_of_logs.result (λ (out : Output). IsLogsOutput lying o states c.as_slice-policies.result.now sources (printed out))
    (λ (out : Output). IsSourcesOutput (slices c.args.settings.now.folders.now) states lying o c.args.units.now sources (printed out))
    (λ out p. Policies c.in_ok-policies-in-Ok.policies.items few c.in_ok-policies-in-Ok.ensures
    (subst (λ (ps : List JobPolicy). IsLogsOutput lying o states ps sources (printed out)) c.as_slice-policies.ensures.value p)) c.job_of_logs.ensures

pub returns-in-Err-Refused : goal.returns-in-Err-Refused
returns-in-Err-Refused g c =
    let folders = slices c.args.settings.now.folders.now in
    let states = c.args.settings.now.states in
    let sources = map (λ s. s.now) c.args.sources.now in
    let u = c.in-Err-Refused.unit.now in
    let e = c.in-Err-Refused.fault in
    let few : length sources ≤ 4095 = omega (arith, length-map c.args.sources.now (λ s. s.now), c.if-sources-gt-MOST_INCLUDES.false) in
    IfOk-weaker c.policy_refused.result (λ (out : Output). SaysPolicyFault folders states u e (printed out) × (e.kind ≢ NoMemory))
    (λ (out : Output). IsSourcesOutput folders states (g.R.Logs.lying c.args.reader.now) c.args.options.now c.args.units.now sources (printed out))
    (λ out p. NoPolicy u e few (subst (λ (n : Unnamed). IsUnnamed (limit_of states) c.args.units.now n) c.in-Err-Refused.field-0-is c.in-Err-Refused.ensures.refused p.1) p.0)
    (both_said c.policy_refused.result (λ (out : Output). SaysPolicyFault folders states u e (printed out)) (e.kind ≢ NoMemory) c.policy_refused.ensures.says c.policy_refused.ensures.other)
