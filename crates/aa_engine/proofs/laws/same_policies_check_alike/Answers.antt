use Rattle.aa_engine.proofs.SameTexts.{check_alike}
use Rattle.aa_engine.proofs.laws.same_policies_check_alike.Goals as goal

pub returns : goal.returns
returns c = λ ps qs h several. check_alike several ps qs h
