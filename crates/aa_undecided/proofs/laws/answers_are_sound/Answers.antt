use Rattle.aa_undecided.proofs.Sound.{answers_hold, sequences_hold, programs_hold, names_hold}
use Rattle.aa_undecided.proofs.laws.answers_are_sound.Goals as goal

pub returns : goal.returns
returns c = record {
  answers = answers_hold c.each_file_decides.ensures;
  sequences = sequences_hold c.each_file_decides.ensures;
  programs = programs_hold c.each_file_decides.ensures;
  names = names_hold c.skipping_is_sound.ensures.names;
}
