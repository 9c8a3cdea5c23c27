use Rattle.std.proofs.Common.{◌≡◌, List, ◌++◌}
use Rattle.std.specs.Prelude.{replicate}
use Rattle.aa_logs.specs.LogLines.{LogLine, log_line}
use Rattle.aa_log.specs.Found.{HasSameSettings, IsReport}
use Rattle.aa_log.proofs.said.take_times.Given as goal

abbrev pub invariant-loop : goal.invariant-loop
invariant-loop l = record {
  log : l.report.log ≡ l.fn.report.log;
  keeps : HasSameSettings l.fn.report l.report;
  taken : (before : List LogLine) → IsReport before l.fn.report → IsReport (before ++ replicate l.counter (log_line l.fn.report.log l.number l.line)) l.report;
}
