use Rattle.aa_lane.proofs.Opens.{opens}
use Rattle.aa_lane.proofs.lane.open_table.Goals as goal

pub new-requires : goal.new-requires
new-requires g c =
    rw (c.from.ensures, c.in_ok-slots.ensures {u = tt}) (opens g.M.Machine.next g.M.Machine.reply record { machine = c.args.machine; start = c.args.start; capacity = c.args.capacity } c.requires)
