use Rattle.std.proofs.Common.{◌≡◌, take}
use Rattle.aa_auto.specs.Nodes.{pointed}
use Rattle.aa_findings.specs.Attached.{patterns_at, kept_at}
use Rattle.aa_findings.proofs.attached.attachments_of.Given as goal

abbrev pub invariant-loop-number : goal.invariant-loop-number
invariant-loop-number l = record {
  patterns : pointed l.pointers.items ≡ patterns_at l.profiles (take l.number-index l.group);
  kept : l.kept.items ≡ kept_at l.profiles (take l.number-index l.group);
}
