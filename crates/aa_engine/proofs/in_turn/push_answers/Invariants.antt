use Rattle.std.proofs.Common.{◌++◌, drop, string_bytes}
use Rattle.aa_engine.specs.Output.{task_lines}
use Rattle.aa_engine.proofs.Writing.{WritingTask}
use Rattle.aa_engine.proofs.InTurn.{row_from}
use Rattle.aa_engine.proofs.in_turn.push_answers.Given as goal

abbrev pub invariant-loop-n : goal.invariant-loop-n
invariant-loop-n l =
    WritingTask l.several l.policies l.task (string_bytes l.out) l.label (row_from l.policies l.n l.label (drop l.n l.works))
    (string_bytes l.fn.out ++ task_lines l.several l.policies l.task l.fn.opening (row_from l.policies 0 l.fn.opening l.works))
