use Rattle.std.proofs.lemmas.Result.{err_from_is_err_and}
use Rattle.aa_merge.specs.Command.{before_of}
use Rattle.aa_merge.specs.Held.{part_data}
use Rattle.aa_merge.proofs.Merged.{together_more}
use Rattle.aa_merge.proofs.command.with_part.Goals as goal

pub returns-clause-added : goal.returns-clause-added
returns-clause-added c = λ rs h.
    (let p = part_data c.args.part.now in together_more p rs c.add.new.self (c.in_ok-add.ensures.added (before_of rs p) (c.begun-merging.ensures rs h)))

pub returns-in_err-add-clause-not : goal.returns-in_err-add-clause-not
returns-in_err-add-clause-not c =
    let q = err_from_is_err_and c.from_residual.result c.from_residual.ensures.1 in
    rw (q.1, q.2) (λ rs h. c.in_err-add.ensures.not (before_of rs (part_data c.args.part.now)) (c.begun-merging.ensures rs h))
