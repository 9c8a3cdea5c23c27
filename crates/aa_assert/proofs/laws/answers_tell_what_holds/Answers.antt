use Rattle.aa_assert.proofs.Sound.{clear_claims_hold, told_ways_break}
use Rattle.aa_assert.proofs.Quiet.{quiet_answers_count_all}
use Rattle.aa_assert.proofs.Telling.{told_break, told_apart, told_fail}
use Rattle.aa_assert.proofs.laws.answers_tell_what_holds.Goals as goal

pub returns : goal.returns
returns c = record {
  clear = clear_claims_hold c.closed_words_are_decided.ensures;
  told = told_break;
  apart = told_apart;
  quiet = quiet_answers_count_all;
  broken = told_fail;
  ways = told_ways_break;
}
