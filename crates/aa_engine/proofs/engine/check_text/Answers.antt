use Rattle.aa_engine.proofs.engine.check_text.Goals as goal

pub returns-clause-text : goal.returns-clause-text
returns-clause-text c = λ input handed. record {
  job = c.args.asked.now.job;
  policies = c.args.asked.now.policies.items;
  asked = handed;
  written = rw c.as_slice.ensures.value at c.in_ok-check_output.ensures;
}
