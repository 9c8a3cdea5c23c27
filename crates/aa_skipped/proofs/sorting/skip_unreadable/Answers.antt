use Rattle.std.proofs.Common.{◌≢◌, Bool, subst}
use Rattle.aa_text.specs.declared.fault.FaultReport.{FaultReport}
use Rattle.aa_files.specs.declared.unit.UnitFault.{UnitFault}
use Rattle.aa_files.specs.declared.unit.UnitFault.TheVariants.{NoMemory}
use Rattle.aa_diagnostics.specs.Reports.{IsSaid}
use Rattle.aa_skipped.proofs.sorting.skip_unreadable.Goals as goal

-- what is said of a unit is not want of memory
said_of_more : (e : UnitFault) (fault : FaultReport) (unread : Bool) → IsSaid e fault unread → e ≢ NoMemory
said_of_more e fault unread said is = subst (λ x. IsSaid x fault unread) is said

pub returns-clause-unreadable : goal.returns-clause-unreadable
returns-clause-unreadable g c = λ why. record {
  e = c.args.fault;
  why = why (said_of_more c.args.fault c.in_ok-said.said c.in_ok-said.field-0-1 c.in_ok-said.ensures);
  is_unread = c.in_ok-said.field-0-1;
  told = c.in_ok-said.ensures;
  unknown = c.nothing_known.ensures;
}
