use Rattle.std.proofs.Common.{ap, ◌∙◌, sym, map, ◌++◌, get_or}
use Rattle.aa_compile.specs.Attached.{attachment_by, attachments_at}
use Rattle.aa_findings.proofs.Grouping.{patterns_more, kept_more}
use Rattle.aa_findings.proofs.attached.attachments_of.Goals as goal

pub loop-number-preserved : goal.loop-number-preserved
loop-number-preserved c =
    let profiles = c.args.profiles.now in
    let i = c.loop-number.number-index in
    let n = get_or c.args.group.now i 0 in
    record {
      patterns =
          c.in_ok-push_of.ensures.patterns ∙ ap (λ l. l ++ attachments_at profiles n) c.loop-number.invariant.patterns ∙ sym (patterns_more profiles c.args.group.now i c.loop-number-test.true);
      kept =
          c.in_ok-push_of.ensures.kept
          ∙ ap (λ l. l ++ map (attachment_by n) (attachments_at profiles n)) c.loop-number.invariant.kept
          ∙ sym (kept_more profiles c.args.group.now i c.loop-number-test.true);
    }
