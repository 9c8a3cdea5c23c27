use Rattle.std.proofs.Common.{Bool, ap, refl, ◌∙◌}
use Rattle.std.specs.Prelude.{not}
use Rattle.aa_files.specs.Numbers.{text_in}
use Rattle.aa_files.specs.Nodes.{is_folder_in}
use Rattle.aa_files.specs.Links.{place_if, excerpt_if}
use Rattle.aa_job.proofs.Placing.{no_lines}
use Rattle.aa_job.proofs.shared.ambiguous.Goals as goal
use Rattle.aa_diagnostics.proofs.SetTwice.{and_true}

pub returns : goal.returns
returns c = record {
  at = c.in_ok-at.at;
  first = c.in_ok-at.ensures;
  kind = refl;
  message_is = c.in_ok-report-2.ensures;
  path = c.in_ok-report.ensures.report.path;
  place = c.in_ok-report.ensures.report.place ∙ ap (λ (b : Bool). place_if b (text_in c.args.unit.now c.in_ok-at.at.file) c.in_ok-at.at.byte) (and_true (not (is_folder_in c.args.unit.now c.in_ok-at.at.file)));
  excerpt = c.in_ok-report.ensures.report.excerpt ∙ ap (λ (b : Bool). excerpt_if b (text_in c.args.unit.now c.in_ok-at.at.file) c.in_ok-at.at.byte) (and_true (not (is_folder_in c.args.unit.now c.in_ok-at.at.file)));
  chain = c.in_ok-report.ensures.report.chain;
  further = no_lines c.in_ok-report.report.further.items (c.in_ok-report.ensures.report.further ∙ c.in_ok-report.ensures.are);
}
