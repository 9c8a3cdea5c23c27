use Rattle.std.proofs.Common.{ap, ◌∙◌, Option}
use Rattle.std.specs.Prelude.{ℕ, is_some}
use Rattle.std.proofs.lemmas.Result.{err_from_is_err_and}
use Rattle.aa_merge.specs.Parts.{both_counts}
use Rattle.aa_merge.proofs.Results.{unlike}
use Rattle.aa_merge.proofs.adding.Merging.add_left_out.Goals as goal

pub returns-clause-added : goal.returns-clause-added
returns-clause-added c = λ r h.
    record {
      said = record {
        requests = h.said.requests;
        skipped = h.said.skipped;
        each = h.said.each;
        lines = h.said.lines;
        asking = h.said.asking;
        skipped_count = h.said.skipped_count;
        other = h.said.other;
        left_out = c.in_ok-report.ensures.sum ∙ ap (λ (o : Option ℕ). both_counts o c.args.part.now.left_out) h.said.left_out;
        unclear = h.said.unclear;
      };
      rows = h.rows;
    }

pub returns-in_err-report-clause-unlike : goal.returns-in_err-report-clause-unlike
returns-in_err-report-clause-unlike c =
    let p = err_from_is_err_and c.from_residual.result c.from_residual.ensures.1 in
    rw (p.1, p.2) (λ r h. unlike _ _ (λ isnt same. isnt (ap is_some h.said.left_out ∙ same)) c.in_err-report.field-0.0 c.in_err-report.ensures.unlike)
