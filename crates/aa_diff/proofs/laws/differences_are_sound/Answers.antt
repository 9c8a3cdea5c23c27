use Rattle.aa_diff.proofs.Quiet.{profiles_hold, free_hold}
use Rattle.aa_diff.proofs.laws.differences_are_sound.Goals as goal

pub returns : goal.returns
returns c = record {
  profiles = profiles_hold c.skipping_is_sound.ensures.names c.each_file_decides.ensures c.closed_labels_are_decided.ensures c.lines_tell_entries.ensures;
  free = free_hold c.skipping_is_sound.ensures.names c.each_file_decides.ensures c.closed_labels_are_decided.ensures c.lines_tell_entries.ensures;
}
