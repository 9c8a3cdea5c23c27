use Rattle.std.proofs.Common.{◌≡◌, ◌++◌, List, map, take, Some}
use Rattle.aa_files.specs.Texts.{texts}
use Rattle.aa_log.specs.Counted.{Counted}
use Rattle.aa_merge.specs.Held.{passed_data, skipped_row, HasMore}
use Rattle.aa_merge.specs.Parts.{Passed}
use Rattle.aa_merge.proofs.adding.push_all_skipped.Given as goal

abbrev pub invariant-loop-row : goal.invariant-loop-row
invariant-loop-row l = record {
  rows : (before : List (Counted Passed)) → map (skipped_row (texts l.fn.paths.items)) l.fn.skipped.items ≡ map Some before
      → map (skipped_row (texts l.paths.items)) l.skipped.items ≡ map Some (before ++ map passed_data (take l.row-index l.rows));
  paths : HasMore (texts l.fn.paths.items) (texts l.paths.items);
}
