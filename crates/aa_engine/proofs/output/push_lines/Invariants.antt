use Rattle.std.proofs.Common.{◌++◌, drop, string_bytes}
use Rattle.aa_engine.specs.LineEnds.{IsLineEnd}
use Rattle.aa_engine.specs.Output.{task_lines}
use Rattle.aa_engine.proofs.Writing.{WritingTask}
use Rattle.aa_engine.proofs.output.push_lines.Given as goal

abbrev pub invariant-loop-answered : goal.invariant-loop-answered
invariant-loop-answered g l =
    WritingTask l.several l.policies l.task (string_bytes l.out) l.before (drop l.answered-index l.answers)
    (string_bytes l.fn.out ++ task_lines l.several l.policies l.task l.fn.opening l.answers)
    × IsLineEnd l.several l.policies l.end.answer l.end
