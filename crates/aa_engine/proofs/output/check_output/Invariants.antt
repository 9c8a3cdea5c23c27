use Rattle.std.proofs.Common.{string_bytes}
use Rattle.aa_engine.proofs.Checking.{Checking}
use Rattle.aa_engine.proofs.output.check_output.Given as goal

abbrev pub invariant-loop-number : goal.invariant-loop-number
invariant-loop-number l = Checking l.several l.policies l.number (string_bytes l.out)
