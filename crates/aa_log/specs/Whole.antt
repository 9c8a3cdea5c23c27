-- Reports of logs, one behind the other.
-- Source: own.
use Rattle.std.specs.Prelude.{◌≡◌, ◌++◌, List, length, min}
use Rattle.aa_logs.specs.declared.chosen.Choice.{Choice}
use Rattle.aa_logs.specs.LogLines.{LogLine}
use Rattle.aa_log.specs.Counted.{greatest, counted}
use Rattle.aa_log.specs.Found.{asked_key, skipped_key, requests_in, skipped_in}
use Rattle.aa_log.specs.Joined.{added, joined, total}

-- the rows of lines and those of later lines, put together, are the rows of all; and so are the counts
pub record AreMergedLines (c : Choice) (ls ms : List LogLine) : Type 0 where
  pub requests : joined asked_key (counted asked_key (requests_in c ls)) (counted asked_key (requests_in c ms)) ≡ counted asked_key (requests_in c (ls ++ ms))
  pub skipped : joined skipped_key (counted skipped_key (skipped_in c ls)) (counted skipped_key (skipped_in c ms)) ≡ counted skipped_key (skipped_in c (ls ++ ms))
  pub skipped_count : total (counted skipped_key (skipped_in c ls)) ≡ min (length (skipped_in c ls)) greatest
  pub lines : added (min (length ls) greatest) (min (length ms) greatest) ≡ min (length (ls ++ ms)) greatest
  pub asking : added (min (length (requests_in c ls)) greatest) (min (length (requests_in c ms)) greatest) ≡ min (length (requests_in c (ls ++ ms))) greatest

-- so the report of two logs one after the other is that of the first and that of the second, merged
abbrev pub LinesAreMerged : Type 0
LinesAreMerged = (c : Choice) (ls ms : List LogLine) → AreMergedLines c ls ms
