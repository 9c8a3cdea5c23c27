use Rattle.std.proofs.Common.{◌≡◌, take, is_some}
use Rattle.aa_files.specs.Texts.{slices}
use Rattle.aa_log.specs.Command.{IsFoundIn}
use Rattle.aa_log.proofs.command.read_reports.Given as goal

abbrev pub invariant-loop-path : goal.invariant-loop-path
invariant-loop-path g l = record {
  number : l.number ≡ l.path-index;
  found : IsFoundIn (g.R.Logs.lying l.reader) l.fn.said.report.choice (is_some l.fn.said.report.each_skipped) (slices (take l.path-index l.logs)) l.said;
}
