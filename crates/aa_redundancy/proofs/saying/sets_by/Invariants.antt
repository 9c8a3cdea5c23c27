use Rattle.std.proofs.Common.{◌≡◌, drop}
use Rattle.aa_compile.specs.Gathered.{picked}
use Rattle.aa_compile.specs.Said.{both}
use Rattle.aa_redundancy.specs.Without.{gone_by}
use Rattle.aa_redundancy.specs.Marks.{sets_by}
use Rattle.aa_redundancy.proofs.saying.sets_by.Given as goal

abbrev pub invariant-loop-number : goal.invariant-loop-number
invariant-loop-number l = both l.sets (sets_by (gone_by l.gone l.flags) l.owned (picked l.marks (drop l.number-index l.row))) ≡ sets_by (gone_by l.gone l.flags) l.owned (picked l.marks l.row)
