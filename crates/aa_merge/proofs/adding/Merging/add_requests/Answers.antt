use Rattle.std.proofs.Common.{◌<◌, List, length, map, subst}
use Rattle.aa_files.specs.Texts.{texts}
use Rattle.aa_log.proofs.Results.{on_ok_both}
use Rattle.aa_log.specs.Joined.{joined}
use Rattle.aa_merge.specs.declared.part.PartRow.{PartRow}
use Rattle.aa_merge.specs.Held.{row_data, AreRows}
use Rattle.aa_merge.specs.Parts.{asking_key}
use Rattle.aa_merge.proofs.Holding.{said_still}
use Rattle.aa_merge.proofs.Results.{if_too_many}
use Rattle.aa_merge.proofs.adding.Merging.add_requests.Goals as goal

pub returns-clause-added : goal.returns-clause-added
returns-clause-added c = on_ok_both c.add_rows.result _ _ _ (λ rows more r h.
    let m = c.args.self.now in
    let s = said_still r (texts m.paths.items) (texts c.add_rows.new.paths.items) m.said more h.said in
    let are : AreRows (joined asking_key r.requests (map row_data c.args.part.now.requests.items))
    (texts c.add_rows.new.paths.items) c.add_rows.new.entries.items c.add_rows.new.numbers =
    subst (λ (l : List PartRow). AreRows (joined asking_key r.requests (map row_data l))
    (texts c.add_rows.new.paths.items) c.add_rows.new.entries.items c.add_rows.new.numbers) c.as_slice-rows.ensures.value (rows r.requests h.rows) in
    record {
      said = record {
        requests = are.rows_are;
        skipped = s.skipped;
        each = s.each;
        lines = s.lines;
        asking = s.asking;
        skipped_count = s.skipped_count;
        other = s.other;
        left_out = s.left_out;
        unclear = s.unclear;
      };
      rows = are;
    }) c.add_rows.ensures.rows c.add_rows.ensures.paths

pub returns-clause-room : goal.returns-clause-room
returns-clause-room c = if_too_many c.add_rows.result _ _
    (λ many r h. subst (λ (l : List PartRow). 1000000 < length (joined asking_key r.requests (map row_data l))) c.as_slice-rows.ensures.value
    (many r.requests h.rows)) c.add_rows.ensures.room
