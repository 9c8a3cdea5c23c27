use Rattle.std.proofs.Common.{drop}
use Rattle.aa_policies.proofs.Gathering.{Gathering}
use Rattle.aa_policies.proofs.sources.gather_sources.Given as goal

abbrev pub invariant-loop-include : goal.invariant-loop-include
invariant-loop-include l = Gathering l.includes (drop l.include-index l.includes) l.sources
