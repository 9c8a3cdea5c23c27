use Rattle.std.proofs.Common.{refl}
use Rattle.aa_auto.proofs.ClosedLemmas.{told_by_index}
use Rattle.aa_auto.proofs.closing.is_in.Goals as goal

pub returns : goal.returns
returns c = told_by_index c.args.indexes.now c.args.set.now c.args.number _ _ refl c.requires.indexed c.is_at.ensures
