use Rattle.std.proofs.Common.{map}
use Rattle.aa_auto.specs.Spots.{AreEmpty}
use Rattle.aa_auto.proofs.jumps.empty_rows.Given as goal

abbrev pub invariant-loop-i : goal.invariant-loop-i
invariant-loop-i l = AreEmpty (map (λ v. v.items) l.rows.items) l._i
