use Rattle.std.proofs.Common.{length}
use Rattle.aa_redundancy.proofs.Keeping.{at_length, of_length}
use Rattle.aa_redundancy.proofs.beside.keep_some_of.Goals as goal

pub keep_some_at-requires : goal.keep_some_at-requires
keep_some_at-requires c = at_length (length c.args.beside.now.gone.items) c.args.number c.loop-at.beside c.loop-at.invariant

pub loop-at-preserved : goal.loop-at-preserved
loop-at-preserved c = of_length (length c.args.beside.now.gone.items) c.args.number c.loop-at.beside c.keep_some_at.new.beside c.loop-at.invariant c.in_ok-keep_some_at.ensures
