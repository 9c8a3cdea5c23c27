use Rattle.std.proofs.Common.{◌+◌, refl, rules}
use Rattle.aa_words.specs.Splits.{word_data}
use Rattle.aa_rules.specs.Reading.{rest_of}
use Rattle.aa_rules.proofs.change_rules.aim_of.Goals as goal

pub returns-clause-found : goal.returns-clause-found
returns-clause-found c = record {
  arrow = word_data c.in_ok-_arrow._arrow.now;
  word = word_data c.in_ok-word.word.now;
  after = rest_of c.args.words.now (c.args.at + 1);
  arrow_stands = search rules;
  stands = search rules;
  is_name = search rules;
  at_is = search rules;
  text_is = refl;
}
