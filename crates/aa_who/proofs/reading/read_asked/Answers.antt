use Rattle.std.proofs.Common.{sym, ◌∙◌}
use Rattle.aa_who.proofs.Objects.{object_read, object_unread, alone_unread}
use Rattle.aa_who.proofs.reading.read_asked.Goals as goal

pub returns-clause-read : goal.returns-clause-read
returns-clause-read c =
    object_read c.args.word.now _ _ c.read_object.result (sym c.is_alone.ensures ∙ c.if-is_alone.false) c.whose_of-whose.ensures c.read_object.ensures.read

pub returns-clause-refused : goal.returns-clause-refused
returns-clause-refused c =
    object_unread c.args.word.now _ _ c.read_object.result (sym c.is_alone.ensures ∙ c.if-is_alone.false) c.whose_of-whose.ensures c.read_object.ensures.refused

pub returns-then-is_alone-clause-refused : goal.returns-then-is_alone-clause-refused
returns-then-is_alone-clause-refused c =
    alone_unread c.args.word.now c.read_alone.result (sym c.is_alone.ensures ∙ c.if-is_alone.true) c.read_alone.ensures.refused
