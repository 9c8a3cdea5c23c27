use Rattle.aa_merge.proofs.Merged.{listed_in}
use Rattle.aa_merge.proofs.command.named_in.Goals as goal

pub returns : goal.returns
returns g c = listed_in
    (g.L.Logs.lying c.args.lists.now) c.args.list.now c.new-names.result c.read_lines.new.lines c.new-names.ensures c.in_ok-read_lines.ensures.taken
