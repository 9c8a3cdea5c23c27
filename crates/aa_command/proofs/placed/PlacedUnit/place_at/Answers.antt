use Rattle.aa_command.proofs.Placing.{placed_in}
use Rattle.aa_command.proofs.placed.PlacedUnit.place_at.Goals as goal

pub returns : goal.returns
returns c =
    let found = c.in-Some.ensures.lookup in
    placed_in c.self.inside.unit.now c.args.self.now c.self.inside.texts.items c.deref.result.now c.args.number c.args.byte c.in-Some.text.now
    c.place_of-place.result c.self.view_is c.deref.ensures.value found.3.0 found.1 c.self.invariant c.place_of-place.ensures
