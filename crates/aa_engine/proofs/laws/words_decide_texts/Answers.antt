use Rattle.aa_engine.proofs.SameTexts.{run_alike, check_alike}
use Rattle.aa_engine.proofs.Replays.{replay_alike}
use Rattle.aa_engine.proofs.Words.{all_spelled_once}
use Rattle.aa_engine.proofs.laws.words_decide_texts.Goals as goal

pub returns : goal.returns
returns c = λ words ps qs g h several capacity tasks events. let same = all_spelled_once words ps qs g h in (run_alike ps qs same several tasks, check_alike several ps qs same, replay_alike ps qs same several capacity tasks events)
