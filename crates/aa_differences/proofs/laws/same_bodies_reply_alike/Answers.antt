use Rattle.aa_differences.proofs.SameReplies.{bodies_alike}
use Rattle.aa_differences.proofs.laws.same_bodies_reply_alike.Goals as goal

pub returns : goal.returns
returns c = λ ps qs same l m body r. bodies_alike ps qs same l m body r
