-- What is printed, and why nothing is answered.
use Rattle.std.proofs.Common.{◌≡◌, ◌≢◌, ℕ, List, Bool, cond, Result, Ok, Err, IfOk, ap, subst, ◌∙◌}
use Rattle.aa_text.specs.declared.fault.FaultReport.{FaultReport}
use Rattle.aa_files.specs.declared.unit.Unit as unit
use Rattle.aa_files.specs.declared.unit.UnitFault.{UnitFault}
use Rattle.aa_files.specs.declared.unit.UnitFault.TheVariants.{NoMemory, At, Ambiguous}
use Rattle.aa_diagnostics.specs.Reports.{IsSaid}
use Rattle.aa_command.specs.declared.output.Output.{Output}
use Rattle.aa_load.specs.declared.fault.LoadingFault.{LoadingFault}
use Rattle.aa_load.specs.declared.fault.LoadingFault.TheVariants.{NoMemory as WantOfMemory}
use Rattle.aa_command.specs.Printed.{Printed, printed, fault_alone}
use Rattle.aa_command.specs.Refusals.{SaysUnitFault, SaysLoadingFault}

pub printed_is : (o : Output) (answers faults refusal : List ℕ) (status : ℕ) → o.answers.items ≡ answers → o.faults.items ≡ faults → o.refusal.items ≡ refusal → o.status ≡ status
    → printed o ≡ record { answers = answers; faults = faults; refusal = refusal; status = status }
printed_is o answers faults refusal status p q r t = cc

-- what is told of a unit's fault is what is said of it
pub unit_said : (e : UnitFault) (report : FaultReport) (unread : Bool) (out : Printed) → IsSaid e report unread → out ≡ fault_alone report (cond unread 3 1) → SaysUnitFault e out
unit_said NoMemory report unread out said is = said
unit_said (At path why) report unread out said is = record { report = report; is_so = said.0; says = is ∙ ap (λ (b : Bool). fault_alone report (cond b 3 1)) said.1 }
unit_said (Ambiguous other) report unread out said is =
    is ∙ ap (λ (b : Bool). fault_alone report (cond b 3 1)) said.1 ∙ ap (λ (r : FaultReport). fault_alone r 1) said.0

-- what is printed, and a fact besides
pub both_said : {E : Type 0} (r : Result Output E) (Says : Output → Type 0) (IsSo : Type 0) → IfOk r Says → IfOk r (λ _. IsSo) → IfOk r (λ out. Says out × IsSo)
both_said (Ok out) Says IsSo says is = (says, is)
both_said (Err e) Says IsSo says is = tt

-- what is said of a fault is not want of memory
pub unit_said_more : (e : UnitFault) (out : Printed) → SaysUnitFault e out → e ≢ NoMemory
unit_said_more e out said is = subst (λ (x : UnitFault). SaysUnitFault x out) is said

pub loading_said_more : (folders : List (List ℕ)) (states : ℕ) (us : List unit.Unit) (f : LoadingFault) (out : Printed) → SaysLoadingFault folders states us f out → f ≢ WantOfMemory
loading_said_more folders states us f out said is = subst (λ (x : LoadingFault). SaysLoadingFault folders states us x out) is said
