use Rattle.std.proofs.Common.{sym, subst}
use Rattle.std.specs.Prelude.{IfOk}
use Rattle.std.proofs.lemmas.Bool.{iff_false}
use Rattle.aa_faults.specs.Further.{IsFirstFault}
use Rattle.aa_faults.proofs.faults.fault_of.Goals as goal
use Rattle.aa_faults.proofs.faults.fault_of.Goals.{in-Ok, in-Err+else-is_want_of_memory}

pub returns : goal.returns
returns c =
    elim c.match-compile_unit.branch [
      | in-Ok w ↦ subst (λ r. IfOk r (IsFirstFault c.args.states c.args.unit.now)) (sym w.result-is) (_, w.in-Ok.ensures.compiled)
      | in-Err+else-is_want_of_memory w ↦ subst (λ r. IfOk r (IsFirstFault c.args.states c.args.unit.now)) (sym w.result-is)
          (w.in-Err.ensures.cause (iff_false w.is_want_of_memory.ensures w.if-is_want_of_memory.false))
    ]
