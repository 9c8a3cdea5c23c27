use Rattle.std.proofs.Common.{◌≡◌, ◌++◌, map, take}
use Rattle.aa_files.specs.Texts.{texts}
use Rattle.aa_diff.specs.Accepted.{finding_entry}
use Rattle.aa_diff.proofs.accepted.push_finding_entries.Given as goal

abbrev pub invariant-loop-finding : goal.invariant-loop-finding
invariant-loop-finding l = texts l.entries.items ≡ texts l.initial.entries.items ++ map (finding_entry l.policies) (take l.finding-index l.findings)
