use Rattle.std.proofs.Common.{◌≡◌, ◌++◌, map, take}
use Rattle.aa_check.specs.Notified.{notified}
use Rattle.aa_who.specs.Untold.{untold}
use Rattle.aa_assert.specs.Sarif.{note_text}
use Rattle.aa_assert.proofs.sarif.push_notes.Given as goal

abbrev pub invariant-loop-one : goal.invariant-loop-one
invariant-loop-one l = notified l.out.items ≡ notified l.initial.out.items ++ map note_text (map untold (take l.one-index l.all))
