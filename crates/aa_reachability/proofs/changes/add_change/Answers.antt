use Rattle.aa_reachability.proofs.Single.{bytes_in}
use Rattle.aa_reachability.proofs.changes.add_change.Goals as goal

pub push_change-requires : goal.push_change-requires
push_change-requires c = bytes_in c.args.name.now c.type_inv.name
