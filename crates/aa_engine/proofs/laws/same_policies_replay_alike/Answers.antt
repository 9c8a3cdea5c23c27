use Rattle.aa_engine.proofs.Replays.{replay_alike}
use Rattle.aa_engine.proofs.laws.same_policies_replay_alike.Goals as goal

pub returns : goal.returns
returns c = λ ps qs h several capacity tasks events. replay_alike ps qs h several capacity tasks events
