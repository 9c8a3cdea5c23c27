use Rattle.std.proofs.Common.{sym, refl, ap, ◌∙◌}
use Rattle.std.specs.Prelude.{slice_index_or}
use Rattle.std.proofs.lemmas.Option.{slice_get-get_or}
use Rattle.aa_claims.proofs.forms.first_wrong.Goals as goal

pub returns-in-Some-clause-wrong : goal.returns-in-Some-clause-wrong
returns-in-Some-clause-wrong c = record {
  number = c.loop-number.number;
  word = slice_index_or c.args.words.now c.loop-number.number c.index-words-number.result;
  is = slice_get-get_or c.args.words.now c.loop-number.number c.index-words-number.result c.loop-number-test.true;
  at_is = refl;
  fault_is = sym c.wrong_at.ensures ∙ c.in-Some.is;
  first = c.loop-number.invariant;
}
