use Rattle.std.proofs.Common.{◌≡◌, ◌++◌, take, flat_map}
use Rattle.aa_reach.specs.Dot.{dot_byte}
use Rattle.aa_reach.proofs.dot.push_bytes.Given as goal

abbrev pub invariant-loop-byte : goal.invariant-loop-byte
invariant-loop-byte l = l.out.items ≡ l.initial.out.items ++ flat_map dot_byte (take l.byte-index l.text)
