use Rattle.std.proofs.lemmas.Bool.{iff_false}
use Rattle.aa_skipped.specs.Heads.{Known, Unknown}
use Rattle.aa_skipped.proofs.heads.unread_of.Goals as goal

pub returns-in_ok-known_by-in-Ok : goal.returns-in_ok-known_by-in-Ok
returns-in_ok-known_by-in-Ok c =
    let spelled = c.in-Ok.ensures.spelled in
    Known spelled.0 c.in-Ok.policy spelled.1 spelled.2 c.in_ok-known_by-in-Ok.ensures

pub returns-else-is_want_of_memory : goal.returns-else-is_want_of_memory
returns-else-is_want_of_memory c =
    Unknown (c.in-Err.ensures.refused (iff_false c.is_want_of_memory.ensures c.if-is_want_of_memory.false)) c.nothing_known.ensures
