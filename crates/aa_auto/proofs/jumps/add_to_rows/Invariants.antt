use Rattle.std.proofs.Common.{take, map}
use Rattle.aa_auto.specs.Spots.{AddsToRows}
use Rattle.aa_auto.proofs.jumps.add_to_rows.Given as goal

abbrev pub invariant-loop-position : goal.invariant-loop-position
invariant-loop-position l = AddsToRows (map (λ v. v.items) l.fn.rows.items) (map (λ v. v.items) l.rows.items) (take l.position-index l.positions) l.number
