use Rattle.std.proofs.Common.{◌≡◌, take, map}
use Rattle.aa_check.specs.Sarif.{ascii_of}
use Rattle.aa_check.proofs.sarif.ascii_bytes.Given as goal

abbrev pub invariant-loop-b : goal.invariant-loop-b
invariant-loop-b l = l.text.items ≡ map ascii_of (take l.b-index l.bytes)
