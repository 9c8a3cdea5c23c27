use Rattle.aa_redundancy.proofs.Singles.{singles_alike, singles_within}
use Rattle.aa_redundancy.proofs.kept.table_of.Goals as goal

pub returns-clause-alike : goal.returns-clause-alike
returns-clause-alike c =
    singles_alike c.args.count (record { marks = c.in_ok-marks.marks; rows = c.in_ok-rows.rows }) c.in_ok-marks.ensures.marks c.in_ok-rows.ensures

pub returns-clause-within : goal.returns-clause-within
returns-clause-within c =
    singles_within c.args.count (record { marks = c.in_ok-marks.marks; rows = c.in_ok-rows.rows }) c.in_ok-marks.ensures.marks c.in_ok-rows.ensures
