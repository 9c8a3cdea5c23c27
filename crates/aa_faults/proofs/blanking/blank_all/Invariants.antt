use Rattle.std.proofs.Common.{◌≡◌, ◌++◌, map, take, drop}
use Rattle.aa_faults.specs.Blanks.{blank_byte}
use Rattle.aa_faults.proofs.blanking.blank_all.Given as goal

abbrev pub invariant-loop-b : goal.invariant-loop-b
invariant-loop-b l = l.text ≡ map blank_byte (take l.b-index l.fn.text) ++ drop l.b-index l.fn.text
