use Rattle.aa_auto.proofs.NotedLemmas.{noted_both}
use Rattle.aa_auto.proofs.noted.note.Goals as goal

pub returns : goal.returns
returns c = noted_both c.args.nodes.now c.args.start c.args.mark c.args.named.now.items c.note_own.new.named.items c.note_next.new.named.items c.args.asked.now.items
    c.note_next.new.asked.items c.note_own.ensures
    c.in_ok-note_next.ensures
