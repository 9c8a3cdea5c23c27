use Rattle.std.proofs.Common.{◌+◌, ◌<◌, List, map, take, length, sym, subst, arith}
use Rattle.aa_files.specs.Texts.{texts}
use Rattle.aa_log.specs.Counted.{Counted}
use Rattle.aa_merge.specs.Held.{row_data, AreRows}
use Rattle.aa_merge.specs.Parts.{Asking, asking_key}
use Rattle.aa_log.specs.Joined.{joined, with_row}
use Rattle.std.proofs.lemmas.Result.{err_from_is_err_and}
use Rattle.aa_merge.proofs.Results.{too_many}
use Rattle.aa_merge.proofs.Further.{no_more, more_and_more, next_joined, joined_longer}
use Rattle.aa_merge.proofs.adding.add_rows.Goals as goal

pub loop-row-init : goal.loop-row-init
unfolding joined
loop-row-init c = record { rows = λ before f. f; paths = no_more (texts c.args.paths.now.items) }

pub loop-row-preserved : goal.loop-row-preserved
loop-row-preserved c =
    let i = c.loop-row.row-index in
    let xs = c.args.rows.now in
    let x = c.row-item.result in
    let p = c.in_ok-add_row.ensures in
    record {
      rows = λ before f. subst (λ (l : List (Counted Asking)). AreRows l (texts c.add_row.new.paths.items) c.add_row.new.entries.items c.add_row.new.numbers)
          (sym (next_joined row_data asking_key before xs i x c.loop-row-test.true c.row-item.is))
          (p.rows (joined asking_key before (map row_data (take i xs))) (c.loop-row.invariant.rows before f));
      paths = more_and_more (texts c.args.paths.now.items) (texts c.loop-row.paths.items) (texts c.add_row.new.paths.items) c.loop-row.invariant.paths p.paths;
    }

pub returns-in_err-add_row-clause-room : goal.returns-in_err-add_row-clause-room
returns-in_err-add_row-clause-room c =
    let i = c.loop-row.row-index in
    let xs = c.args.rows.now in
    let x = c.row-item.result in
    let many :
    ((rows : List (Counted Asking)) → AreRows rows (texts c.loop-row.paths.items) c.loop-row.entries.items c.loop-row.numbers
    → 1000000 < length (with_row asking_key rows (row_data x)))
    → (before : List (Counted Asking)) → AreRows before (texts c.args.paths.now.items) c.args.entries.now.items c.args.numbers.now
    → 1000000 < length (joined asking_key before (map row_data xs)) =
    λ too before f.
    let so_far : List (Counted Asking) = joined asking_key before (map row_data (take i xs)) in
    let here : 1000000 < length (joined asking_key before (map row_data (take (i + 1) xs))) =
    subst (λ (l : List (Counted Asking)). 1000000 < length l) (sym (next_joined row_data asking_key before xs i x c.loop-row-test.true c.row-item.is))
    (too so_far (c.loop-row.invariant.rows before f)) in
    omega (arith, here, joined_longer row_data asking_key before xs (i + 1)) in
    let p = err_from_is_err_and c.from_residual.result c.from_residual.ensures.1 in
    rw (p.1, p.2) (too_many _ _ many c.in_err-add_row.field-0.0 c.in_err-add_row.ensures.room)
