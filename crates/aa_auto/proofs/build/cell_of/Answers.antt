use Rattle.std.proofs.Common.{[], get_or}
use Rattle.aa_auto.proofs.NetLemmas.{goes_alike, spots_below}
use Rattle.aa_auto.proofs.build.cell_of.Goals as goal

pub lead_alike-requires-clause-asked : goal.lead_alike-requires-clause-asked
lead_alike-requires-clause-asked c = λ n h.
    let r = c.requires.reached.reached c.args.row c.requires.row in
    spots_below c.args.net.now c.requires.net (get_or c.args.found.now.sets c.args.row []) r.0 r.2 n (c.requires.noted.from n h)

pub returns-then-lead_alike-clause-goes : goal.returns-then-lead_alike-clause-goes
returns-then-lead_alike-clause-goes c =
    goes_alike c.args.net.now c.requires.net c.args.found.now.sets c.args.row 255 c.args.byte c.args.next
    (c.lead_alike.ensures c.if-lead_alike.true (get_or c.args.found.now.sets c.args.row []) c.requires.noted) c.requires.usual
