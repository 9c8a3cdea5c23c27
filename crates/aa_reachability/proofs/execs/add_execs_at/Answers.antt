use Rattle.std.proofs.Common.{Bool, true, false, Contains}
use Rattle.aa_model.specs.declared.request.Request.TheVariants.{Exec}
use Rattle.aa_representatives.specs.Askable.{IsExec}
use Rattle.aa_representatives.proofs.Adding.{adds_both, adds_keep}
use Rattle.aa_reachability.proofs.Single.{bytes_in}
use Rattle.aa_reachability.proofs.execs.add_execs_at.Goals as goal

pub add_exec-requires : goal.add_exec-requires
add_exec-requires c = bytes_in c.args.path.now c.type_inv.path

pub add_exec-requires-2 : goal.add_exec-requires-2
add_exec-requires-2 c = bytes_in c.args.path.now c.type_inv.path

pub returns-clause-adds : goal.returns-clause-adds
returns-clause-adds c =
    adds_both IsExec c.args.requests.now.items c.add_exec.new.requests.items c.add_exec-2.new.requests.items c.in_ok-add_exec.ensures.adds
    c.in_ok-add_exec-2.ensures.adds

pub returns-clause-has : goal.returns-clause-has
returns-clause-has c = λ good owned.
    let was = c.add_exec.new.requests.items in
    let now = c.add_exec-2.new.requests.items in
    elim owned as (λ (b : Bool). Contains now (Exec (record { path = c.args.path.now; owned = b }))) [
      | true ↦ adds_keep IsExec was now c.in_ok-add_exec-2.ensures.adds _ (c.in_ok-add_exec.ensures.has good)
      | false ↦ c.in_ok-add_exec-2.ensures.has good
    ]
