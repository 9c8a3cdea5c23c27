use Rattle.aa_who.proofs.Turns.{asks_nothing}
use Rattle.aa_who.proofs.answering.answer_to.Goals as goal

pub returns-in-Ok-clause-refused : goal.returns-in-Ok-clause-refused
returns-in-Ok-clause-refused c =
    asks_nothing c.answer_by.result c.args.text.now c.in-Ok.word c.in-Ok.ensures.read c.answer_by.ensures.refused
