use Rattle.std.proofs.Common.{◌≡◌, ◌++◌, take}
use Rattle.aa_check.specs.Sarif.{notifications}
use Rattle.aa_check.specs.Notified.{notified}
use Rattle.aa_check.proofs.sarif.add_notifications.Given as goal

abbrev pub invariant-loop-warning : goal.invariant-loop-warning
invariant-loop-warning l = notified l.list.items ≡ notified l.initial.list.items ++ notifications (take l.warning-index l.warnings)
