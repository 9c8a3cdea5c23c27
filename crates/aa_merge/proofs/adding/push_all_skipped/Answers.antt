use Rattle.std.proofs.Common.{◌++◌, ◌∷◌, [], List, map, take, Some, sym, ap, ◌∙◌, append-nil, append_assoc}
use Rattle.aa_files.specs.Texts.{texts}
use Rattle.aa_log.specs.Counted.{Counted}
use Rattle.aa_log.proofs.Answered.{next_taken}
use Rattle.aa_merge.specs.Held.{passed_data}
use Rattle.aa_merge.specs.Parts.{Passed}
use Rattle.aa_merge.proofs.Further.{no_more, more_and_more}
use Rattle.aa_merge.proofs.adding.push_all_skipped.Goals as goal

pub loop-row-init : goal.loop-row-init
loop-row-init c = record { rows = λ before f. f ∙ ap (map Some) (sym (append-nil before)); paths = no_more (texts c.args.paths.now.items) }

pub loop-row-preserved : goal.loop-row-preserved
loop-row-preserved c =
    let i = c.loop-row.row-index in
    let xs = c.args.rows.now in
    let x = c.row-item.result in
    let p = c.in_ok-push_skipped.ensures in
    record {
      rows = λ before f. p.rows (before ++ map passed_data (take i xs)) (c.loop-row.invariant.rows before f)
          ∙ ap (map Some)
          (append_assoc before (map passed_data (take i xs)) (passed_data x ∷ [])
          ∙ ap (λ (l : List (Counted Passed)). before ++ l) (sym (next_taken passed_data xs i x c.loop-row-test.true c.row-item.is)));
      paths = more_and_more (texts c.args.paths.now.items) (texts c.loop-row.paths.items)
          (texts c.push_skipped.new.paths.items) c.loop-row.invariant.paths p.paths;
    }
