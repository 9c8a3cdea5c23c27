use Rattle.std.proofs.Common.{refl}
use Rattle.aa_logs.proofs.ByKeys.{none_placed}
use Rattle.aa_logs.proofs.keyed.KeyedWords.none.Goals as goal

pub invariant_of-result : goal.invariant_of-result
invariant_of-result c = none_placed _ _ refl c.in_ok-with_capacity.ensures.items
