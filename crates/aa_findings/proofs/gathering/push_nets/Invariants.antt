use Rattle.std.proofs.Common.{◌≡◌, ◌++◌}
use Rattle.aa_findings.specs.Gathered.{nets_before}
use Rattle.aa_findings.proofs.gathering.push_nets.Given as goal

abbrev pub invariant-loop-number : goal.invariant-loop-number
invariant-loop-number l = l.found.items ≡ l.fn.found.items ++ nets_before l.complain l.rules l.number
