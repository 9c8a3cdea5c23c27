use denote.Param.Send.{sendable}
use Rattle.std.proofs.Common.{ap, Err}
use Rattle.std.proofs.Crossing.{crosses}
use Rattle.aa_engine.specs.declared.tasks.MediateFault.{MediateFault}
use Rattle.aa_mediate.proofs.Shared.{mediator_sync}
use Rattle.aa_engine.proofs.Inputs.{unknown_explained}
use Rattle.aa_engine.proofs.engine.run_text.Goals as goal

pub answered_text-requires-sync-M : goal.answered_text-requires-sync-M
answered_text-requires-sync-M g c κs within = search (mediator_sync, sendable, crosses) depth 20

pub returns-in-Err-clause-cause : goal.returns-in-Err-clause-cause
returns-in-Err-clause-cause g c = λ input handed.
    rw c.mediate_fault.ensures (unknown_explained _ c.args.asked.now.job c.args.asked.now.policies.items c.in-Err.fault handed
    (λ task e. (rw c.as_slice-policies.ensures.value at c.in-Err.ensures.unknown) task (ap (λ (f : MediateFault). Err f) e)))

pub returns-in-Ok-clause-text : goal.returns-in-Ok-clause-text
returns-in-Ok-clause-text g c = λ input handed. record {
  job = c.args.asked.now.job;
  policies = c.args.asked.now.policies.items;
  asked = handed;
  written = rw (c.new-mediator.ensures, c.as_slice-policies.ensures.value) at c.in-Ok.ensures.text;
}
