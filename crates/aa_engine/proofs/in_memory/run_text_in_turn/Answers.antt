use Rattle.std.proofs.Common.{◌∙◌, sym}
use Rattle.aa_engine.proofs.in_memory.run_text_in_turn.Goals as goal

pub returns-in-Some-clause-cause : goal.returns-in-Some-clause-cause
returns-in-Some-clause-cause c = λ input handed. record {
  job = c.args.asked.now.job;
  policies = c.args.asked.now.policies.items;
  asked = handed;
  unknown = sym (rw (c.as_slice-policies.ensures.value, c.as_slice-tasks.ensures) at c.unknown_task.ensures) ∙ c.in-Some.is;
}

pub returns-clause-text : goal.returns-clause-text
returns-clause-text c = λ input handed. record {
  job = c.args.asked.now.job;
  policies = c.args.asked.now.policies.items;
  asked = handed;
  written = rw (c.as_slice-policies.ensures.value, c.as_slice-tasks.ensures) at c.in_ok-run_output_in_turn.ensures;
}
