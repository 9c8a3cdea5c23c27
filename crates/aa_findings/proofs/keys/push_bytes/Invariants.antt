use Rattle.std.proofs.Common.{◌≡◌, ◌++◌, take}
use Rattle.aa_findings.proofs.keys.push_bytes.Given as goal

abbrev pub invariant-loop-byte : goal.invariant-loop-byte
invariant-loop-byte l = l.key.items ≡ l.fn.key.items ++ take l.byte-index l.bytes
