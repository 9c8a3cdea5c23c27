use Rattle.std.proofs.Common.{◌<◌, length, arith, get_or, []}
use Rattle.std.specs.Prelude.{ℕ, List}
use Rattle.aa_logs.proofs.Cells.{one_in, row_small, column_small}
use Rattle.aa_logs.proofs.counts.Counts.add.Goals as goal

pub returns-clause-one : goal.returns-clause-one
returns-clause-one c = λ before after.
    let rows : List (List ℕ) = c.args.self.now.rows in
    let r : ℕ = c.row_of-row.result in
    let k : ℕ = c.column_of-column.result in
    let in_rows : r < length rows = omega (arith, row_small c.args.then, c.row_of-row.ensures) in
    let in_row : k < length (get_or rows r []) = omega (arith, column_small c.args.now, c.column_of-column.ensures, c.with_one.ensures.len) in
    one_in c.args.then c.args.now before after rows r k c.with_one.result c.row_of-row.ensures c.column_of-column.ensures in_rows in_row c.with_one.ensures.one
