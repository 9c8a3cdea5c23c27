use Rattle.std.proofs.Common.{arith, ap, length, subst, OnOk}
use Rattle.aa_auto.specs.Noted.{AreNoted}
use Rattle.aa_auto.proofs.net.Net.note.Goals as goal

pub note_set-requires-clause-within : goal.note_set-requires-clause-within
note_set-requires-clause-within c = λ n h. omega (arith, c.requires.set n h, ap length c.as_slice.ensures.value)

pub returns : goal.returns
returns c =
    subst (λ z. OnOk c.note_set.result (AreNoted z c.args.set.now c.args.mark c.note_set.new.named.items c.note_set.new.asked.items)) c.as_slice.ensures.value
    c.note_set.ensures
