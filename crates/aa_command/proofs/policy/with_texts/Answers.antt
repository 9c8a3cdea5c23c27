use Rattle.std.proofs.Common.{◌∙◌}
use Rattle.std.proofs.lemmas.Result.{IfOk-weaker}
use Rattle.aa_files.specs.Texts.{slices}
use Rattle.aa_command.specs.declared.output.Output.{Output}
use Rattle.aa_command.specs.Printed.{printed}
use Rattle.aa_command.specs.Refusals.{SaysLoadingFault}
use Rattle.aa_command.specs.Policies.{IsPrintedBy, Refused}
use Rattle.aa_load.specs.UnitPolicy.{limit_of}
use Rattle.aa_command.proofs.Outputs.{loading_said_more}
use Rattle.aa_command.proofs.Deciding.{one_lent, printed_by}
use Rattle.aa_command.proofs.policy.with_texts.Goals as goal

pub returns-in_ok-placed-in-Ok : goal.returns-in_ok-placed-in-Ok
returns-in_ok-placed-in-Ok g c =
    let states = c.args.settings.now.states in
    printed_by (slices c.args.settings.now.folders.now) states c.args.units.now (g.U.Use.gives c.args.user.now) _ c.use_policy.result (record {
      units_are = c.as_slice.ensures.value ∙ c.in_ok-placed-in-Ok.ensures;
      texts = c.args.texts.now;
      are = c.requires;
      one = one_lent c.args.texts.now (limit_of states) c.in-Ok.loaded.owners.items c.as_slice-in-Ok.result.now c.in-Ok.loaded.places.items c.as_slice-in-Ok-3.result.now c.in-Ok.loaded.policies.items c.as_slice-in-Ok-2.result.now
          c.as_slice-in-Ok.ensures.value c.as_slice-in-Ok-3.ensures.value c.as_slice-in-Ok-2.ensures.value c.in-Ok.ensures.ok;
    }) c.use_policy.ensures

pub returns-in-Err : goal.returns-in-Err
returns-in-Err g c =
    let folders = slices c.args.settings.now.folders.now in
    let states = c.args.settings.now.states in
    let units = c.args.units.now in
    let f = c.in-Err.fault in
    IfOk-weaker c.units_refused.result (λ (o : Output). SaysLoadingFault folders states units f (printed o)) (λ (o : Output). IsPrintedBy folders states units (g.U.Use.gives c.args.user.now) (printed o)) (λ o says.
    Refused f (record { texts = c.args.texts.now; are = c.requires; refused = c.in-Err.ensures.cause (loading_said_more folders states units f (printed o) says) }) says) c.units_refused.ensures
