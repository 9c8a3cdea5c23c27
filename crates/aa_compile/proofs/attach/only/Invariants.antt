use Rattle.std.proofs.Common.{◌≡◌, drop}
use Rattle.aa_compile.specs.Attached.{common, profiles_of}
use Rattle.aa_compile.proofs.Agreed.{agree}
use Rattle.aa_compile.proofs.attach.only.Given as goal

abbrev pub invariant-loop-number : goal.invariant-loop-number
invariant-loop-number l = agree l.found (profiles_of l.literal l.front l.attachments (drop l.number-index l.numbers)) ≡ common (profiles_of l.literal l.front l.attachments l.numbers)
