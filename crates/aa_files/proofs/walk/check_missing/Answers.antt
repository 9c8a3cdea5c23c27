use Rattle.std.proofs.Common.{ℕ, List, Some, None, refl, ap}
use Rattle.aa_files.specs.FilesData.{read}
use Rattle.aa_files.specs.UnitFaults.IsAmbiguous.{OnlyHere}
use Rattle.aa_files.proofs.Faulted.{said_alike}
use Rattle.aa_files.proofs.walk.check_missing.Goals as goal

pub returns-in-Some-clause-fault : goal.returns-in-Some-clause-fault
returns-in-Some-clause-fault g c =
    let path = c.in-Some.path.items in
    OnlyHere path (read c.in-Some.field-0-1) c.requires (rw c.in-Some.is at c.in_ok-path.ensures.found)
    (said_alike c.args.unit.now c.args.node c.args.wanted.byte None (Some c.as_slice.result.now) None (Some path) c.in_ok-fault-in-Some.fault refl (ap (λ (p : List ℕ). Some p) c.as_slice.ensures.value) c.in_ok-fault-in-Some.ensures)
