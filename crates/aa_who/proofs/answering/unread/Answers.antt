use Rattle.aa_who.specs.Answers.{Unread}
use Rattle.aa_who.proofs.answering.unread.Goals as goal

pub returns-in-Ok : goal.returns-in-Ok
returns-in-Ok c = Unread c.args.misread.now c.requires c.in-Ok.ensures
