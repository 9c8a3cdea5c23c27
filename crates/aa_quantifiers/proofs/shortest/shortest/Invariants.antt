use Rattle.aa_quantifiers.specs.Quantities.{IsBest}
use Rattle.aa_quantifiers.specs.Aims.{IsMet}
use Rattle.aa_quantifiers.proofs.shortest.shortest.Given as goal

abbrev pub invariant-loop-number : goal.invariant-loop-number
invariant-loop-number l = IsBest l.order (IsMet l.policies l.label l.aim) l.requests l.number l.best
