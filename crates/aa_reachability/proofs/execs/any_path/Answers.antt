use Rattle.aa_reachability.proofs.Anything.{matches_all}
use Rattle.aa_reachability.proofs.execs.any_path.Goals as goal

pub returns : goal.returns
returns c = matches_all (record { items = c.in_ok-items.items }) c.in_ok-items.ensures.items
