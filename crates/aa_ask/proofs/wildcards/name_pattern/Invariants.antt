use Rattle.std.proofs.Common.{◌≡◌, map, take}
use Rattle.aa_ask.proofs.wildcards.name_pattern.Given as goal
use Rattle.aa_ask.specs.Wildcards.{name_item}

abbrev pub invariant-loop-byte : goal.invariant-loop-byte
invariant-loop-byte l = l.items.items ≡ map name_item (take l.byte-index l.text)
