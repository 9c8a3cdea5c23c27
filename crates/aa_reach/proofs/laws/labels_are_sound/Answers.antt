use Rattle.aa_reach.proofs.Sounds.{labels_hold}
use Rattle.aa_reach.proofs.laws.labels_are_sound.Goals as goal

pub returns : goal.returns
returns c = labels_hold c.each_file_decides.ensures c.closed_labels_are_decided.ensures
