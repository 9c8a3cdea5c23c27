use Rattle.std.proofs.lemmas.Grind.{common_steps}
use Rattle.std.proofs.Common.{Contains, length, ◌<◌, arith, sym}
use Rattle.std.proofs.lemmas.Result.{err_from_is_err_and}
use Rattle.aa_files.specs.RootFaults.{IsFaultOf, looked_paths}
use Rattle.aa_files.proofs.Faulted.{handed_on}
use Rattle.aa_files.proofs.Rooted.{faults_weaker}
use Rattle.aa_files.proofs.roots.is_wanted.Goals as goal

pub returns-in_err-is_in-clause-fault : goal.returns-in_err-is_in-clause-fault
returns-in_err-is_in-clause-fault g c =
    let paths = looked_paths c.args.base.now c.args.name.now in
    let p = err_from_is_err_and c.from_residual.result c.from_residual.ensures.1 in
    let within : 0 < length paths = omega arith in
    handed_on c.from_residual.result _ _ (IsFaultOf (Contains paths) (λ _. ⊥)) p.1 p.2
    (faults_weaker _ _ (Contains paths) (λ _. ⊥) (λ q is. (0, within, sym is)) (λ q h. h) _ c.in_err-is_in.ensures.fault)

pub returns-clause-told : goal.returns-clause-told
returns-clause-told g c = grind (arith, common_steps)
