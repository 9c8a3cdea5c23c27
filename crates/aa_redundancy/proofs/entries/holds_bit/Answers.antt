use Rattle.std.proofs.Common.{eqb, sym, ap}
use Rattle.std.proofs.lemmas.Nat.Bits.{bit_at_above}
use Rattle.aa_redundancy.proofs.entries.holds_bit.Goals as goal

pub returns-then-number-ge64 : goal.returns-then-number-ge64
returns-then-number-ge64 c = sym (ap (λ n. eqb n 1) (bit_at_above c.args.bits 64 c.args.number c.ranges.bits.fits c.if-number-ge64.true))
