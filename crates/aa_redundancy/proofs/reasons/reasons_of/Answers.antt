use Rattle.std.proofs.Common.{List, sym, subst}
use Rattle.std.specs.Global.{Global}
use Rattle.std.specs.declared.vec.Vec.{Vec}
use Rattle.aa_redundancy.specs.declared.mentions.RowNumber.{RowNumber}
use Rattle.aa_redundancy.specs.Mentions.{lists, AreListed}
use Rattle.aa_redundancy.proofs.reasons.reasons_of.Goals as goal

pub reasons_by-requires-clause-rows : goal.reasons_by-requires-clause-rows
reasons_by-requires-clause-rows c = subst (λ (ls : List (Vec RowNumber Global)). AreListed c.args.tables.now (lists ls)) (sym c.as_slice.ensures.value) c.in_ok-listed.ensures.all
