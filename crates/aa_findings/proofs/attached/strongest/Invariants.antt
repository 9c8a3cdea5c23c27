use Rattle.std.proofs.Common.{◌≡◌, take}
use Rattle.std.specs.List.{filter}
use Rattle.aa_compile.specs.Attached.{is_strong}
use Rattle.aa_findings.proofs.attached.strongest.Given as goal

abbrev pub invariant-loop-attachment : goal.invariant-loop-attachment
invariant-loop-attachment l = l.strong.items ≡ filter (is_strong l.literal l.front) (take l.attachment-index l.matches)
