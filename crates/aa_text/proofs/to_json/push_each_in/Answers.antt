use Rattle.std.proofs.Common.{arith}
use Rattle.aa_text.proofs.Commas.{all_appended}
use Rattle.aa_text.proofs.to_json.push_each_in.Goals as goal

pub returns : goal.returns
returns g c =
    all_appended (g.T.ListItem.stands c.args.context.now) (g.T.ListItem.item c.args.context.now) c.loop-rest.is_later c.args.out.now.items c.loop-rest.out.items
    c.loop-rest.rest.now c.args.values.now (omega arith) c.loop-rest.invariant
