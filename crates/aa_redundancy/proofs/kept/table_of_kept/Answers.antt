use Rattle.aa_redundancy.specs.Covering.{Within}
use Rattle.aa_redundancy.specs.Tables.{Equal}
use Rattle.aa_redundancy.specs.Kept.{GoneAlike, GoneWithin}
use Rattle.aa_redundancy.proofs.Placing.{placed_decides}
use Rattle.aa_redundancy.proofs.kept.table_of_kept.Goals as goal

pub returns-clause-alike : goal.returns-clause-alike
returns-clause-alike c =
    placed_decides Equal c.args.numbers.now c.in_ok-table.table c.in_ok-placed.placed (GoneAlike c.args.count) c.in_ok-table.ensures.alike
    c.in_ok-placed.ensures.marks c.in_ok-placed.ensures.rows

pub returns-clause-within : goal.returns-clause-within
returns-clause-within c =
    placed_decides Within c.args.numbers.now c.in_ok-table.table c.in_ok-placed.placed (GoneWithin c.args.count) c.in_ok-table.ensures.within
    c.in_ok-placed.ensures.marks c.in_ok-placed.ensures.rows
