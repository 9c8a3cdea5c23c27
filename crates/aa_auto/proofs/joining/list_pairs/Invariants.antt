use Rattle.aa_auto.specs.Pairs.{AreListPairs}
use Rattle.aa_auto.proofs.joining.list_pairs.Given as goal

abbrev pub invariant-loop-key : goal.invariant-loop-key
invariant-loop-key l = AreListPairs l.one l.other l.keys l.key-index l.numbers l.listed
