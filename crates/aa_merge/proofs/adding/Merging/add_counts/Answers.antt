use Rattle.std.proofs.Common.{ap, ◌∙◌}
use Rattle.std.specs.Prelude.{ℕ}
use Rattle.aa_log.specs.Joined.{added}
use Rattle.aa_merge.proofs.adding.Merging.add_counts.Goals as goal

pub returns : goal.returns
returns c = λ r h.
    let p = c.args.part.now in
    record {
      said = record {
        requests = h.said.requests;
        skipped = h.said.skipped;
        each = h.said.each;
        lines = c.saturating_add-report.ensures ∙ ap (λ (n : ℕ). added n p.lines) h.said.lines;
        asking = c.saturating_add-report-2.ensures ∙ ap (λ (n : ℕ). added n p.asking) h.said.asking;
        skipped_count = h.said.skipped_count;
        other = c.saturating_add-report-3.ensures ∙ ap (λ (n : ℕ). added n p.other) h.said.other;
        left_out = h.said.left_out;
        unclear = h.said.unclear;
      };
      rows = h.rows;
    }
