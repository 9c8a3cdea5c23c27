use Rattle.std.proofs.Common.{◌≡◌, ◌++◌, take, map}
use Rattle.aa_auto.specs.Nodes.{pointed}
use Rattle.aa_compile.specs.Attached.{attachment_by}
use Rattle.aa_findings.proofs.attached.push_attachments.Given as goal

abbrev pub invariant-loop-pattern : goal.invariant-loop-pattern
invariant-loop-pattern l = record {
  patterns : pointed l.pointers.items ≡ pointed l.fn.pointers.items ++ take l.pattern-index l.patterns;
  attachments : l.kept.items ≡ l.fn.kept.items ++ map (attachment_by l.number) (take l.pattern-index l.patterns);
}
