use Rattle.aa_redundancy.specs.Covering.{Within, IsWithin}
use Rattle.aa_redundancy.specs.Tables.{Equal}
use Rattle.aa_redundancy.proofs.Tabled.{SameRights, equal_rights, within_rights, nets_decide}
use Rattle.aa_redundancy.proofs.entries.table_of_nets.Goals as goal

pub returns-clause-alike : goal.returns-clause-alike
returns-clause-alike c =
    nets_decide c.args.rules.now (record { marks = c.in_ok-marks.marks; rows = c.in_ok-rows.rows }) c.in_ok-marks.ensures c.in_ok-rows.ensures Equal SameRights equal_rights

pub returns-clause-within : goal.returns-clause-within
returns-clause-within c =
    nets_decide c.args.rules.now (record { marks = c.in_ok-marks.marks; rows = c.in_ok-rows.rows }) c.in_ok-marks.ensures c.in_ok-rows.ensures Within IsWithin within_rights
