use Rattle.aa_assert.proofs.Sound.{claims_hold, free_claims_hold, breakings_stand, endings_stand, ways_stand, arrivals_stand}
use Rattle.aa_assert.proofs.laws.claims_are_sound.Goals as goal

pub returns : goal.returns
returns c = record {
  claims = claims_hold c.each_file_decides.ensures c.closed_words_are_decided.ensures;
  free = free_claims_hold c.each_file_decides.ensures c.closed_words_are_decided.ensures;
  broken = breakings_stand c.each_file_decides.ensures;
  ended = endings_stand c.each_file_decides.ensures;
  led = ways_stand c.each_file_decides.ensures;
  comes = arrivals_stand c.each_file_decides.ensures;
}
