use Rattle.std.proofs.Common.{refl}
use Rattle.aa_auto.proofs.MergeLemmas.{merged_none}
use Rattle.aa_auto.proofs.merging.Merged.new.Goals as goal

pub returns-clause-merged : goal.returns-clause-merged
returns-clause-merged c = merged_none _ c.new.ensures.items c.new-2.ensures.items refl
