use Rattle.std.proofs.Common.{◌≡◌, take, map}
use Rattle.aa_auto.specs.Nodes.{pointed}
use Rattle.aa_compile.specs.Attached.{attachments_by, pattern_of, attachment_of}
use Rattle.aa_compile.proofs.attach.attachments_of.Given as goal

abbrev pub invariant-loop-number : goal.invariant-loop-number
invariant-loop-number l = record {
  patterns : pointed l.pointers.items ≡ map pattern_of (attachments_by l.profiles (take l.number-index l.numbers));
  attachments : l.attachments.items ≡ map attachment_of (attachments_by l.profiles (take l.number-index l.numbers));
}
