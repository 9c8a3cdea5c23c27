use Rattle.std.proofs.Common.{◌≡◌, ◌++◌, false, drop}
use Rattle.aa_glob.specs.Expansions.{squeezed}
use Rattle.aa_glob.proofs.expanding.squeeze.Given as goal

abbrev pub invariant-loop-byte : goal.invariant-loop-byte
invariant-loop-byte l = l.found.items ++ squeezed l.after (drop l.byte-index l.text) ≡ squeezed false l.text
