use Rattle.aa_redundancy.proofs.Replies.{answers_same}
use Rattle.aa_redundancy.proofs.laws.same_sayings_reply_alike.Goals as goal

pub returns : goal.returns
returns c = λ p q same l rs asked. answers_same p q same l rs asked
