-- A text that names no label, as it is told.
use Rattle.std.proofs.Common.{◌≡◌, ℕ, List, false, Vec, Result, Err, refl, subst}
use Rattle.std.specs.Prelude.{IfErr}
use Rattle.std.specs.declared.alloc.Global.{Global}
use Rattle.aa_command.specs.declared.decided.Decided.{Decided}
use Rattle.aa_skipped.specs.declared.skipped.Skipped.{Skipped}
use Rattle.aa_command.specs.Printed.{Printed, faults_alone}
use Rattle.aa_reach.specs.declared.fault.NameFault.{NameFault}
use Rattle.aa_reach.specs.declared.fault.NameFault.TheVariants.{Refused}
use Rattle.aa_reach.specs.declared.command.ReachOptions.{ReachOptions}
use Rattle.aa_reach.specs.declared.command.Asked.{Asked}
use Rattle.aa_reach.specs.Command.{SaysUnnamed, asks_nothing, IsReachOf, Unnamed}

pub unnamed_by : (states : ℕ) (o : ReachOptions) (skipped : List Skipped) (d : Decided) (r : Result Asked NameFault) (line : Vec ℕ Global) (out : Printed)
    → asks_nothing o ≡ false → r ≡ Err (Refused line)
    → IfErr r (SaysUnnamed d.policies.now skipped o) → out ≡ faults_alone line.items 1 → IsReachOf states o skipped d out
unnamed_by states o skipped d r line out some e why is =
    Unnamed (Refused line) line.items some refl (subst (λ (x : Result Asked NameFault). IfErr x (SaysUnnamed d.policies.now skipped o)) e why) is
