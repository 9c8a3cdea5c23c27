use Rattle.std.proofs.Common.{arith, ap, sym, ◌∙◌, length}
use Rattle.std.proofs.Math.Nat.{mul-zero}
use Rattle.aa_auto.proofs.build.fill_rows.Goals as goal

pub loop-row-init : goal.loop-row-init
loop-row-init c = record {
  reached = c.requires.reached;
  listed = c.requires.listed;
  filled = λ row class few lt. absurd (omega (arith, lt, ap length c.new-cells.ensures));
  many = ap length c.new-cells.ensures ∙ sym (mul-zero (length c.args.bytes.now));
  row = omega arith;
  few = c.requires.few;
  noted = c.in_ok-noted.ensures;
}
