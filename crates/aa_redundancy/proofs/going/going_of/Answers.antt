use Rattle.std.proofs.Common.{List, Bool, sym, subst}
use Rattle.std.specs.Global.{Global}
use Rattle.std.specs.declared.vec.Vec.{Vec}
use Rattle.aa_redundancy.specs.declared.mentions.RowNumber.{RowNumber}
use Rattle.aa_redundancy.specs.Mentions.{lists, AreListed}
use Rattle.aa_redundancy.specs.Tables.{SameTables}
use Rattle.aa_redundancy.specs.Going.{MarksThose, is_free, GoesWith}
use Rattle.aa_redundancy.proofs.going.going_of.Goals as goal

pub alone-requires-clause-rows : goal.alone-requires-clause-rows
alone-requires-clause-rows c = subst (λ (ls : List (Vec RowNumber Global)). AreListed c.args.tables.now (lists ls)) (sym c.as_slice-listed.ensures.value) c.in_ok-listed.ensures.all

pub together-requires-clause-rows : goal.together-requires-clause-rows
together-requires-clause-rows c = subst (λ (ls : List (Vec RowNumber Global)). AreListed c.args.tables.now (lists ls)) (sym c.as_slice-listed.ensures.value) c.in_ok-listed.ensures.all

pub returns : goal.returns
returns c =
    let marks = c.in_ok-together.together.items in record {
      many_alone = c.in_ok-alone.ensures.many;
      many_together = c.in_ok-together.ensures.many;
      alone = c.in_ok-alone.ensures.those;
      together = subst (λ (fs : List Bool). MarksThose marks c.args.count (GoesWith (SameTables c.args.tables.now) (is_free fs c.args.held.now) marks)) c.as_slice.ensures.value c.in_ok-together.ensures.those;
      all = c.in_ok-together.ensures.all;
    }
