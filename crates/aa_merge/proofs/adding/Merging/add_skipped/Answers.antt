use Rattle.std.proofs.Common.{List, Some, map, ap, ◌∙◌}
use Rattle.aa_files.specs.Texts.{texts}
use Rattle.aa_log.proofs.Results.{on_ok_both}
use Rattle.aa_log.specs.Joined.{joined, total}
use Rattle.aa_merge.specs.declared.part.PartSkipped.{PartSkipped}
use Rattle.aa_merge.specs.Held.{passed_data}
use Rattle.aa_merge.specs.Parts.{passed_key}
use Rattle.aa_merge.proofs.Holding.{said_still, requests_still}
use Rattle.aa_merge.proofs.adding.Merging.add_skipped.Goals as goal

pub returns : goal.returns
returns c = on_ok_both c.add_reasons.result _ _ _ (λ rows more r h.
    let m = c.args.self.now in
    let s = said_still r (texts m.paths.items) (texts c.add_reasons.new.paths.items) m.said more h.said in
    record {
      said = record {
        requests = s.requests;
        skipped = rows r.skipped h.said.skipped
            ∙ ap (λ (l : List PartSkipped). map Some (joined passed_key r.skipped (map passed_data l))) c.as_slice-rows.ensures.value;
        each = s.each;
        lines = s.lines;
        asking = s.asking;
        skipped_count = c.sum_of-report.ensures r.skipped h.said.skipped_count
            ∙ ap (λ (l : List PartSkipped). total (joined passed_key r.skipped (map passed_data l))) c.as_slice-rows.ensures.value;
        other = s.other;
        left_out = s.left_out;
        unclear = s.unclear;
      };
      rows = requests_still r.requests (texts m.paths.items) (texts c.add_reasons.new.paths.items) m.said.report.entries.items m.numbers more h.rows;
    }) c.add_reasons.ensures.rows c.add_reasons.ensures.paths
