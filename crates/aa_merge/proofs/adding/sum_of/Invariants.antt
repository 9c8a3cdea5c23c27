use Rattle.std.proofs.Common.{◌≡◌, List, map, take}
use Rattle.aa_log.specs.Counted.{Counted}
use Rattle.aa_merge.specs.Held.{passed_data}
use Rattle.aa_merge.specs.Parts.{Passed, passed_key}
use Rattle.aa_log.specs.Joined.{joined, total}
use Rattle.aa_merge.proofs.adding.sum_of.Given as goal

abbrev pub invariant-loop-row : goal.invariant-loop-row
invariant-loop-row l = (before : List (Counted Passed)) → l.first ≡ total before
    → l.sum ≡ total (joined passed_key before (map passed_data (take l.row-index l.rows)))
