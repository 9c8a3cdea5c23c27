use Rattle.std.proofs.Common.{◌≡◌, take}
use Rattle.aa_diff.specs.Report.{shown_of}
use Rattle.aa_diff.proofs.report.shown_of.Given as goal

abbrev pub invariant-loop-finding : goal.invariant-loop-finding
invariant-loop-finding l = l.shown.items ≡ shown_of l.policies l.wanted (take l.finding-index l.findings)
