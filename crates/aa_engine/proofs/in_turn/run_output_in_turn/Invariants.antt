use Rattle.std.proofs.Common.{drop, string_bytes}
use Rattle.aa_engine.specs.Output.{run_text}
use Rattle.aa_engine.proofs.InTurn.{InTurn}
use Rattle.aa_engine.proofs.in_turn.run_output_in_turn.Given as goal

abbrev pub invariant-loop-n : goal.invariant-loop-n
invariant-loop-n l = InTurn l.several l.policies l.n (string_bytes l.out) (drop l.n l.tasks) (run_text l.several l.policies l.tasks)
