use Rattle.std.proofs.Common.{◌≡◌, ◌++◌, take}
use Rattle.std.specs.Prelude.{flat_map}
use Rattle.aa_base.specs.Hex.{pair_by}
use Rattle.aa_base.proofs.hex.push_digits.Given as goal

abbrev pub invariant-loop-b : goal.invariant-loop-b
invariant-loop-b g l = g.S.Sink.bytes l.out ≡ g.S.Sink.bytes l.initial.out ++ flat_map (pair_by l.ten) (take l.b-index l.bytes)
