use Rattle.aa_engine.proofs.Replies.{replies_alike}
use Rattle.aa_engine.proofs.laws.same_policies_reply_alike.Goals as goal

pub returns : goal.returns
returns c = replies_alike
