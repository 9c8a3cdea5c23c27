use Rattle.std.proofs.Common.{List, map, take}
use Rattle.aa_files.specs.Texts.{texts}
use Rattle.aa_log.specs.Counted.{Counted}
use Rattle.aa_merge.specs.Held.{row_data, AreRows, HasMore}
use Rattle.aa_merge.specs.Parts.{Asking, asking_key}
use Rattle.aa_log.specs.Joined.{joined}
use Rattle.aa_merge.proofs.adding.add_rows.Given as goal

abbrev pub invariant-loop-row : goal.invariant-loop-row
invariant-loop-row l = record {
  rows : (before : List (Counted Asking)) → AreRows before (texts l.fn.paths.items) l.fn.entries.items l.fn.numbers
      → AreRows (joined asking_key before (map row_data (take l.row-index l.rows))) (texts l.paths.items) l.entries.items l.numbers;
  paths : HasMore (texts l.fn.paths.items) (texts l.paths.items);
}
