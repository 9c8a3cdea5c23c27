use Rattle.std.proofs.Common.{◌≡◌, drop, max}
use Rattle.aa_compile.specs.Gathered.{picked}
use Rattle.aa_compile.specs.Attached.{longest}
use Rattle.aa_compile.proofs.attach.longest_front.Given as goal

abbrev pub invariant-loop-number : goal.invariant-loop-number
invariant-loop-number l = max l.front (longest (picked l.attachments (drop l.number-index l.numbers))) ≡ longest (picked l.attachments l.numbers)
