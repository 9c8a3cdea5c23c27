use Rattle.std.proofs.Common.{map, take, Some, sym, ap, ◌∙◌}
use Rattle.aa_files.specs.Texts.{texts}
use Rattle.aa_merge.specs.Held.{passed_data}
use Rattle.aa_merge.specs.Parts.{passed_key}
use Rattle.aa_log.specs.Joined.{joined}
use Rattle.aa_merge.proofs.Further.{no_more, more_and_more, next_joined}
use Rattle.aa_merge.proofs.adding.add_reasons.Goals as goal

pub loop-row-init : goal.loop-row-init
unfolding joined
loop-row-init c = record { rows = λ before f. f; paths = no_more (texts c.args.paths.now.items) }

pub loop-row-preserved : goal.loop-row-preserved
loop-row-preserved c =
    let i = c.loop-row.row-index in
    let xs = c.args.rows.now in
    let x = c.row-item.result in
    let p = c.in_ok-add_skipped.ensures in
    record {
      rows = λ before f. p.rows (joined passed_key before (map passed_data (take i xs))) (c.loop-row.invariant.rows before f)
          ∙ ap (map Some) (sym (next_joined passed_data passed_key before xs i x c.loop-row-test.true c.row-item.is));
      paths = more_and_more (texts c.args.paths.now.items) (texts c.loop-row.paths.items)
          (texts c.add_skipped.new.paths.items) c.loop-row.invariant.paths p.paths;
    }
