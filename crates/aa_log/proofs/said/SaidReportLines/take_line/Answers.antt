use Rattle.std.proofs.Common.{ℕ, List, ◌++◌, ap, subst, ◌∙◌}
use Rattle.std.specs.Prelude.{replicate}
use Rattle.std.proofs.lemmas.Result.{on_ok_weaker}
use Rattle.aa_logs.specs.LogLines.{log_line}
use Rattle.aa_messages.specs.Said.{said_data}
use Rattle.aa_messages.specs.Unclear.{is_unclear}
use Rattle.aa_log.specs.Found.{IsReport}
use Rattle.aa_log.proofs.Saying.{one_said}
use Rattle.aa_log.proofs.said.SaidReportLines.take_line.Goals as goal

pub returns-clause-taken : goal.returns-clause-taken
returns-clause-taken c =
    let old = c.args.self.now in
    let number = c.args.number in
    let said = c.in_ok-said.said in
    let text = c.as_slice-text.ensures.value in
    on_ok_weaker c.take_times.result (λ taken before is.
    one_said before (log_line old.report.log number c.args.line.now) old
    (record { report = c.take_times.new.report; unclear = c.counted-self.result; first_unclear = c.first_of-self.result })
    (said_data said) c.is_unclear_as-is_unclear.result c.in_ok-said.ensures
    (c.is_unclear_as-is_unclear.ensures ∙ ap is_unclear text)
    (λ b f. subst (λ (t : List ℕ). IsReport (b ++ replicate said.times (log_line old.report.log number t)) c.take_times.new.report) text
    (taken b f)) c.counted-self.ensures c.first_of-self.ensures is) c.take_times.ensures.taken
