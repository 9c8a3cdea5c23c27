use Rattle.aa_skipped.proofs.Each.{each_decides}
use Rattle.aa_skipped.proofs.laws.each_file_decides.Goals as goal

pub returns : goal.returns
returns c = each_decides c.skipping_is_sound.ensures.answers
