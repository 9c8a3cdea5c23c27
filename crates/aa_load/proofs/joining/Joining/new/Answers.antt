use Rattle.std.proofs.Common.{refl}
use Rattle.aa_load.proofs.Joins.{nothing_kept}
use Rattle.aa_load.proofs.joining.Joining.new.Goals as goal

pub invariant_of-result : goal.invariant_of-result
invariant_of-result c = nothing_kept _ c.new.ensures.items c.new-2.ensures.items c.new-3.ensures.empty refl
