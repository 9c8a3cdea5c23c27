use Rattle.std.proofs.Common.{◌≡◌, false, true, get_or, arith}
use Rattle.std.specs.Prelude.{◌==◌}
use Rattle.aa_text.proofs.Nearing.{goes_on, ends_apart, ends_second, ends_first}
use Rattle.aa_text.proofs.nearest.common.Goals as goal

pub returns-then-i-second-clause-count : goal.returns-then-i-second-clause-count
returns-then-i-second-clause-count c = ends_second c.args.first.now c.args.second.now c.loop-i.i (omega (arith, c.if-i-second.true)) c.loop-i.invariant.0

pub returns-then-second-i-clause-count : goal.returns-then-second-i-clause-count
returns-then-second-i-clause-count c =
    let other : (get_or c.args.first.now c.loop-i.i 0 == get_or c.args.second.now c.loop-i.i 0) ≡ false = grind arith in
    ends_apart c.args.first.now c.args.second.now c.loop-i.i (omega arith) (omega arith) other c.loop-i.invariant.0

pub loop-i-preserved : goal.loop-i-preserved
loop-i-preserved c =
    let same : (get_or c.args.first.now c.loop-i.i 0 == get_or c.args.second.now c.loop-i.i 0) ≡ true = grind arith in
    (goes_on c.args.first.now c.args.second.now c.loop-i.i (omega arith) (omega arith) same c.loop-i.invariant.0, omega arith)

pub returns-clause-count : goal.returns-clause-count
returns-clause-count c = grind (arith, ends_first)
