use Rattle.std.proofs.Common.{◌≡◌, ◌++◌, take, flat_map}
use Rattle.aa_check.specs.Sarif.{uri_byte}
use Rattle.aa_check.proofs.sarif.push_uri_bytes.Given as goal

abbrev pub invariant-loop-b : goal.invariant-loop-b
invariant-loop-b l = l.out.items ≡ l.initial.out.items ++ flat_map uri_byte (take l.b-index l.path)
