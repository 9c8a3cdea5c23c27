use Rattle.aa_auto.proofs.MoveLemmas.{on_ok, insert_wanted}
use Rattle.aa_auto.proofs.moves.insert_if.Goals as goal

pub returns-then-wanted : goal.returns-then-wanted
returns-then-wanted c = on_ok c.insert.result (insert_wanted c.args.set.now.items c.insert.new.set.items c.args.value c.args.wanted c.if-wanted.true) c.insert.ensures
