use Rattle.std.proofs.Common.{◌≡◌, take}
use Rattle.aa_findings.specs.Attached.{numbers_of}
use Rattle.aa_findings.proofs.attached.numbers_of.Given as goal

abbrev pub invariant-loop-attachment : goal.invariant-loop-attachment
invariant-loop-attachment l = l.numbers.items ≡ numbers_of (take l.attachment-index l.attachments)
