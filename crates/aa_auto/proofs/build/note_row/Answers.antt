use Rattle.std.proofs.Common.{[], sym, subst, OnOk}
use Rattle.aa_auto.specs.Noted.{AreNoted}
use Rattle.aa_auto.proofs.NetLemmas.{spots_below}
use Rattle.aa_auto.proofs.ExploredLemmas.{got, row_set}
use Rattle.aa_auto.proofs.build.note_row.Goals as goal

pub note-requires-clause-set : goal.note-requires-clause-set
note-requires-clause-set c =
    let r = row_set c.args.net.now c.args.sets.now c.args.row c.in-Some.set.now (sym c.in-Some.ensures) c.requires.reached in
    spots_below c.args.net.now c.requires.net c.in-Some.set.now r.0 r.2

pub returns : goal.returns
returns c =
    subst (λ z. OnOk c.note.result (AreNoted c.args.net.now.nodes.items z c.args.row c.note.new.noted.named.items c.note.new.noted.asked.items))
    (sym (got c.args.sets.now c.args.row c.in-Some.set.now [] (sym c.in-Some.ensures)).1) c.note.ensures
