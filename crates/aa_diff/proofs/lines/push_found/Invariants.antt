use Rattle.std.proofs.Common.{◌≡◌, ◌++◌, take, map}
use Rattle.aa_diff.specs.Lines.{Found, told}
use Rattle.aa_diff.proofs.lines.push_found.Given as goal

abbrev pub invariant-loop-finding : goal.invariant-loop-finding
invariant-loop-finding l = map told l.lines.items ≡ map told l.initial.lines.items ++ map Found (take l.finding-index l.findings)
