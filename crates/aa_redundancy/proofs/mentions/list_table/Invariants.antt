use Rattle.std.proofs.Common.{◌≡◌, ℕ, ◌<◌, List, Some}
use Rattle.std.specs.List.{slice_get}
use Rattle.aa_redundancy.specs.Mentions.{lists, IsListed, StayListed}
use Rattle.aa_redundancy.proofs.mentions.list_table.Given as goal

abbrev pub invariant-loop-row : goal.invariant-loop-row
invariant-loop-row l = record {
  stay : StayListed (lists l.fn.listed.items) (lists l.listed.items);
  here : (j : ℕ) (row : List ℕ) → j < l.row → slice_get l.table.rows.items j ≡ Some row → IsListed l.table row (record { table = l.number; row = j }) (lists l.listed.items);
}
