use Rattle.std.proofs.Common.{◌≡◌, take}
use Rattle.aa_representatives.specs.Names.{literal_of}
use Rattle.aa_representatives.proofs.names.literal.Given as goal

abbrev pub invariant-loop-byte : goal.invariant-loop-byte
invariant-loop-byte l = l.items.items ≡ literal_of (take l.byte-index l.text)
