use Rattle.std.proofs.Common.{◌∙◌}
use Rattle.aa_files.specs.Texts.{texts}
use Rattle.aa_log.proofs.Results.{on_ok_both}
use Rattle.aa_merge.proofs.Holding.{said_still, requests_still, each_alike}
use Rattle.aa_merge.proofs.Results.{unlike}
use Rattle.std.proofs.lemmas.Result.{IfErr-weaker}
use Rattle.aa_merge.proofs.adding.Merging.add_each_skipped.Goals as goal

pub returns-clause-added : goal.returns-clause-added
returns-clause-added c = on_ok_both c.add_each.result _ _ _ (λ rows more r h.
    let m = c.args.self.now in
    let s = said_still r (texts m.paths.items) (texts c.add_each.new.paths.items) m.said more h.said in
    record {
      said = record {
        requests = s.requests;
        skipped = s.skipped;
        each = rows r.each h.said.each;
        lines = s.lines;
        asking = s.asking;
        skipped_count = s.skipped_count;
        other = s.other;
        left_out = s.left_out;
        unclear = s.unclear;
      };
      rows = requests_still r.requests (texts m.paths.items) (texts c.add_each.new.paths.items) m.said.report.entries.items m.numbers more h.rows;
    }) c.add_each.ensures.rows c.add_each.ensures.paths

pub returns-clause-unlike : goal.returns-clause-unlike
returns-clause-unlike c = IfErr-weaker c.add_each.result _ _
    (λ e isnt r h. unlike _ _
    (λ not same. not (each_alike r (texts c.args.self.now.paths.items) c.args.self.now.said h.said ∙ same)) e isnt) c.add_each.ensures.unlike
