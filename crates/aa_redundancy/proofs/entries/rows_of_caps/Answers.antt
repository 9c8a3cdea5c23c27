use Rattle.aa_redundancy.specs.Plain.{cap_row}
use Rattle.aa_redundancy.proofs.Positions.{rows_more}
use Rattle.aa_redundancy.proofs.entries.rows_of_caps.Goals as goal

pub loop-cap-preserved : goal.loop-cap-preserved
loop-cap-preserved c =
    rows_more (cap_row c.args.rules.now) c.loop-cap.cap c.loop-cap.rows.items c.push.new.self.items c.in_ok-row_of_cap.field-0 c.in_ok-push.ensures.items c.in_ok-row_of_cap.ensures c.loop-cap.invariant
