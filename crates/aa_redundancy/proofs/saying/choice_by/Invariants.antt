use Rattle.std.proofs.Common.{◌≡◌, drop}
use Rattle.aa_compile.specs.Gathered.{picked}
use Rattle.aa_compile.specs.Sides.{earlier}
use Rattle.aa_redundancy.specs.Without.{gone_by}
use Rattle.aa_redundancy.specs.Marks.{choice_by}
use Rattle.aa_redundancy.proofs.saying.choice_by.Given as goal

abbrev pub invariant-loop-number : goal.invariant-loop-number
invariant-loop-number l = earlier l.choice (choice_by (gone_by l.gone l.flags) l.literal l.owned (picked l.marks (drop l.number-index l.row))) ≡ choice_by (gone_by l.gone l.flags) l.literal l.owned (picked l.marks l.row)
