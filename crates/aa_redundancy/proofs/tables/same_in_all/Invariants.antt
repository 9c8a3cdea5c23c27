use Rattle.std.proofs.Common.{All, take}
use Rattle.aa_redundancy.specs.Without.{marked}
use Rattle.aa_redundancy.specs.Tables.{Equal}
use Rattle.aa_redundancy.specs.Mentions.{RelatedAt}
use Rattle.aa_redundancy.proofs.tables.same_in_all.Given as goal

abbrev pub invariant-loop-number : goal.invariant-loop-number
invariant-loop-number l = All (RelatedAt Equal l.tables (marked l.gone) (marked l.others)) (take l.number l.rows)
