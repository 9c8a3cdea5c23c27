use Rattle.std.proofs.Common.{◌++◌, ◌∙◌}
use Rattle.std.specs.Prelude.{replicate}
use Rattle.aa_logs.specs.LogLines.{log_line}
use Rattle.aa_log.proofs.Saying.{once_more}
use Rattle.aa_log.proofs.said.take_times.Goals as goal

pub loop-preserved : goal.loop-preserved
loop-preserved c =
    let taken = c.in_ok-take_line.ensures in
    let first = c.args.report.now.log in
    record {
      log = taken.log ∙ c.loop.invariant.log;
      keeps = taken.keeps c.args.report.now c.loop.invariant.keeps;
      taken = λ before is. once_more c.take_line.new.self c.loop.counter c.loop.report.log first c.args.number c.args.line.now before c.loop.invariant.log
          (taken.taken (before ++ replicate c.loop.counter (log_line first c.args.number c.args.line.now)) (c.loop.invariant.taken before is));
    }
