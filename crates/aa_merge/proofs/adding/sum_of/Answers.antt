use Rattle.std.proofs.Common.{List, map, take, sym, ap, ◌∙◌}
use Rattle.std.specs.Prelude.{ℕ}
use Rattle.aa_log.specs.Counted.{Counted}
use Rattle.aa_merge.specs.Held.{passed_data}
use Rattle.aa_merge.specs.Parts.{Passed, passed_key}
use Rattle.aa_log.specs.Joined.{added, joined, total}
use Rattle.aa_merge.proofs.Further.{next_joined}
use Rattle.aa_log.proofs.Joining.{total_row}
use Rattle.aa_merge.proofs.adding.sum_of.Goals as goal

pub loop-row-init : goal.loop-row-init
unfolding joined
loop-row-init c = λ before f. f

pub loop-row-preserved : goal.loop-row-preserved
loop-row-preserved c = λ before f.
    let i = c.loop-row.row-index in
    let xs = c.args.rows.now in
    let x = c.row-item.result in
    let so_far : List (Counted Passed) = joined passed_key before (map passed_data (take i xs)) in
    c.saturating_add-sum.ensures ∙ ap (λ (n : ℕ). added n x.count) (c.loop-row.invariant before f) ∙ sym (total_row passed_key so_far (passed_data x))
    ∙ ap total (sym (next_joined passed_data passed_key before xs i x c.loop-row-test.true c.row-item.is))
