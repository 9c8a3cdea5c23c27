use Rattle.std.proofs.Common.{◌≡◌, ◌++◌, take, flat_map}
use Rattle.aa_check.specs.declared.report.FileReport.{FileReport}
use Rattle.aa_check.specs.Sarif.{notifications}
use Rattle.aa_check.specs.Notified.{notified}
use Rattle.aa_check.proofs.sarif.all_notifications.Given as goal

abbrev pub invariant-loop-file : goal.invariant-loop-file
invariant-loop-file l = notified l.list.items ≡ notifications l.report.warnings.items ++ flat_map (λ (f : FileReport). notifications f.warnings.items) (take l.file-index l.report.files.items)
