use Rattle.aa_differences.proofs.Running.{run_alike}
use Rattle.aa_differences.proofs.laws.same_policies_run_alike.Goals as goal

pub returns : goal.returns
returns c = λ ps qs same l m called rs asked. run_alike ps qs same l m called rs asked
