use Rattle.std.proofs.Common.{true≢false, sym, arith}
use Rattle.aa_compile.proofs.conflicts.has_conflict.Goals as goal

pub returns : goal.returns
returns c = (λ h. absurd (true≢false (sym h)), λ d. absurd (c.loop-number.invariant d.0 d.1 (omega (arith, d.2, c.loop-number-test.false, c.lists-number-end.ensures)) d.3))
