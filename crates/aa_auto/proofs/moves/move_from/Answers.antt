use Rattle.aa_auto.proofs.MoveLemmas.{moves_made}
use Rattle.aa_auto.proofs.moves.move_from.Goals as goal

pub returns : goal.returns
returns c =
    moves_made c.args.nodes.now c.args.byte c.args.start c.args.set.now.items c.insert_if.new.set.items c.insert_if-2.new.set.items c.continues_at-stays.result c.begins_at-goes.result
    c.continues_at-stays.ensures c.begins_at-goes.ensures c.in_ok-insert_if.ensures c.in_ok-insert_if-2.ensures
