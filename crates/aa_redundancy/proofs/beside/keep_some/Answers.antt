use Rattle.std.proofs.Common.{length}
use Rattle.aa_redundancy.proofs.Keeping.{at_length, of_length}
use Rattle.aa_redundancy.proofs.beside.keep_some.Goals as goal

pub keep_unseen_at-requires : goal.keep_unseen_at-requires
keep_unseen_at-requires c = at_length (length c.args.beside.now.gone.items) c.args.number c.loop-mark.beside c.loop-mark.invariant

pub loop-mark-preserved : goal.loop-mark-preserved
loop-mark-preserved c = of_length (length c.args.beside.now.gone.items) c.args.number c.loop-mark.beside c.keep_unseen_at.new.beside c.loop-mark.invariant c.in_ok-keep_unseen_at.ensures
