use Rattle.std.proofs.Common.{◌≡◌, map, take}
use Rattle.aa_check.specs.Notified.{notified}
use Rattle.aa_command.specs.Untold.{untelling}
use Rattle.aa_check.specs.Sarif.{note_text}
use Rattle.aa_check.proofs.sarif.notes_of.Given as goal

abbrev pub invariant-loop-untold : goal.invariant-loop-untold
invariant-loop-untold l = notified l.list.items ≡ map note_text (map untelling (take l.untold-index l.all))
