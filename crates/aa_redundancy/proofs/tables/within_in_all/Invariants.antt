use Rattle.std.proofs.Common.{false, All, take}
use Rattle.aa_redundancy.specs.Without.{marked, gone_by}
use Rattle.aa_redundancy.specs.Covering.{Within}
use Rattle.aa_redundancy.specs.Mentions.{RelatedAt}
use Rattle.aa_redundancy.proofs.tables.within_in_all.Given as goal

abbrev pub invariant-loop-number : goal.invariant-loop-number
invariant-loop-number l = All (RelatedAt Within l.tables (gone_by false l.only) (marked l.gone)) (take l.number l.rows)
