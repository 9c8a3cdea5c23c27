use Rattle.std.proofs.Common.{ap, ◌∙◌, sym, subst}
use Rattle.aa_diagnostics.specs.Reports.{IsSaid}
use Rattle.aa_check.specs.Checked.{Read, Unread}
use Rattle.aa_check.proofs.Found.{said_of_more}
use Rattle.aa_check.proofs.checking.check_file.Goals as goal

pub returns-in_ok-check_unit-in-Ok-clause-found : goal.returns-in_ok-check_unit-in-Ok-clause-found
returns-in_ok-check_unit-in-Ok-clause-found g c = Read c.in-Ok.unit (record { main = c.in-Ok.ensures.main; unit_is = c.in-Ok.ensures.unit }) c.in_ok-check_unit-in-Ok.ensures.found c.in_ok-check_unit-in-Ok.ensures.unread

pub returns-in_ok-fault-in-Err-clause-found : goal.returns-in_ok-fault-in-Err-clause-found
returns-in_ok-fault-in-Err-clause-found g c =
    let said = c.in_ok-fault-in-Err.ensures in
    Unread c.in-Err.fault c.in_ok-fault-in-Err.fault
    (c.in-Err.ensures.fault (said_of_more c.in-Err.fault c.in_ok-fault-in-Err.fault c.in_ok-fault-in-Err.is_unread said))
    (subst (λ b. IsSaid c.in-Err.fault c.in_ok-fault-in-Err.fault b) (sym c.refused.ensures.unread) said)
    (record { has = c.refused.ensures.has; alone = ap (λ v. v.items) c.refused.ensures.further ∙ c.new.ensures.items }) c.refused.ensures.held
