use Rattle.aa_engine.proofs.SameTexts.{run_alike}
use Rattle.aa_engine.proofs.laws.same_policies_run_alike.Goals as goal

pub returns : goal.returns
returns c = λ ps qs h several tasks. run_alike ps qs h several tasks
