use Rattle.std.proofs.Common.{◌≡◌, ◌++◌, take}
use Rattle.aa_findings.specs.Keys.{AreFirsts}
use Rattle.aa_findings.specs.Gathered.{files_before}
use Rattle.aa_findings.proofs.gathering.push_files.Given as goal

abbrev pub invariant-loop-number : goal.invariant-loop-number
invariant-loop-number l = record {
  found : l.found.items ≡ l.fn.found.items ++ files_before l.complain l.rows l.rules l.number;
  firsts : AreFirsts l.firsts l.rows (take l.number l.rules);
}
