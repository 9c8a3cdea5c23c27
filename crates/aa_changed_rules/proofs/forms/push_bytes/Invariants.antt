use Rattle.std.proofs.Common.{◌≡◌, ◌++◌, take}
use Rattle.aa_changed_rules.proofs.forms.push_bytes.Given as goal

abbrev pub invariant-loop-byte : goal.invariant-loop-byte
invariant-loop-byte l = l.out.items ≡ l.initial.out.items ++ take l.byte-index l.bytes
