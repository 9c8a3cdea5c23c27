use Rattle.std.proofs.lemmas.Bool.{iff_false}
use Rattle.aa_skipped.proofs.sorting.skip_unit.Goals as goal

pub returns-clause-refused : goal.returns-clause-refused
returns-clause-refused g c = λ why. record {
  e = c.args.fault;
  why = why (iff_false c.is_want_of_memory.ensures c.if-is_want_of_memory.false);
  told = c.in_ok-said.ensures;
  heads = c.in_ok-unread.ensures;
}
