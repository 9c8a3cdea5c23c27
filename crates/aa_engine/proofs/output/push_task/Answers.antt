use Rattle.std.proofs.Common.{◌≡◌, length, arith}
use Rattle.aa_engine.proofs.Writing.{nothing_more}
use Rattle.aa_engine.proofs.output.push_task.Goals as goal

pub returns-then-is_empty : goal.returns-then-is_empty
returns-then-is_empty g c =
    let none : length c.args.answers.now ≡ 0 = grind (arith, c.is_empty.ensures, c.if-is_empty.true) in
    nothing_more _ _ _ _ _ c.args.answers.now none
