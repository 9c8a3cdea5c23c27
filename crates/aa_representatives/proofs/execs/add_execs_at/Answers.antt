use Rattle.std.proofs.Common.{Bool, true, false, Contains}
use Rattle.aa_model.specs.declared.request.Request.TheVariants.{Exec}
use Rattle.aa_representatives.specs.Askable.{IsExec}
use Rattle.aa_representatives.proofs.Adding.{adds_both, adds_keep}
use Rattle.aa_representatives.proofs.execs.add_execs_at.Goals as goal

pub returns-clause-adds : goal.returns-clause-adds
returns-clause-adds c = adds_both IsExec c.args.requests.now.items c.add_exec.new.requests.items c.add_exec-2.new.requests.items c.in_ok-add_exec.ensures.adds c.in_ok-add_exec-2.ensures.adds

pub returns-clause-has : goal.returns-clause-has
returns-clause-has c = λ owned. at owned
  where
    at : (owned : Bool) → Contains c.add_exec-2.new.requests.items (Exec (record { path = c.args.path.now; owned = owned }))
    at true = adds_keep IsExec c.add_exec.new.requests.items c.add_exec-2.new.requests.items c.in_ok-add_exec-2.ensures.adds (Exec (record { path = c.args.path.now; owned = true })) c.in_ok-add_exec.ensures.has
    at false = c.in_ok-add_exec-2.ensures.has
