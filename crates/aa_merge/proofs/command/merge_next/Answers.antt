use Rattle.std.proofs.lemmas.Result.{err_from_is_err_and}
use Rattle.aa_merge.specs.Command.{NotAdded}
use Rattle.aa_merge.specs.Held.{part_data}
use Rattle.aa_merge.proofs.command.merge_next.Goals as goal

pub returns-in-Ok-clause-added : goal.returns-in-Ok-clause-added
returns-in-Ok-clause-added g c = λ rs h. (part_data c.in_ok-part.part, c.in_ok-part.ensures.part, c.in-Ok.ensures.added rs h)

pub returns-clause-not : goal.returns-clause-not
returns-clause-not g c = λ rs h. NotAdded (part_data c.in_ok-part.part) c.in_ok-part.ensures.part (c.in-Err.ensures.not rs h)

pub returns-in_err-part-clause-not : goal.returns-in_err-part-clause-not
returns-in_err-part-clause-not g c =
    let q = err_from_is_err_and c.from_residual.result c.from_residual.ensures.1 in
    rw (q.1, q.2) (λ rs h. c.in_err-part.ensures.not rs)
