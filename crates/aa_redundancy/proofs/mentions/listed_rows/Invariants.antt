use Rattle.std.proofs.Common.{◌≡◌, ℕ, ◌<◌, Some, length}
use Rattle.std.specs.List.{slice_get}
use Rattle.aa_redundancy.specs.declared.tables.Table.{Table}
use Rattle.aa_redundancy.specs.Mentions.{lists, RowsAreListed}
use Rattle.aa_redundancy.proofs.mentions.listed_rows.Given as goal

abbrev pub invariant-loop-number : goal.invariant-loop-number
invariant-loop-number l = record {
  many : length (lists l.listed.items) ≡ l.count;
  here : (k : ℕ) (t : Table) → k < l.number → slice_get l.tables k ≡ Some t → RowsAreListed t k (lists l.listed.items);
}
